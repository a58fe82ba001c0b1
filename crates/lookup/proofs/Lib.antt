-- Laws of accepted curves that other crates cite.
pub mod Areas
