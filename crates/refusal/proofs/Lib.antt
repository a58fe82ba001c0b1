-- Laws of results as answers, that other crates cite.
pub mod Results
