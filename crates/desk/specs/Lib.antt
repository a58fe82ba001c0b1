-- What lemmas cite.
pub mod Inner
