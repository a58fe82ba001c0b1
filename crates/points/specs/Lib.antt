-- What contracts of inner functions cite.
pub mod Inner
