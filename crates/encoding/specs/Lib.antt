-- The file of a curve; then what inner contracts cite.
pub mod File
pub mod Inner
