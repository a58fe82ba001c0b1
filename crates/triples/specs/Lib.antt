-- The statistics package's points; then what inner contracts cite.
pub mod Triples
pub mod Inner
