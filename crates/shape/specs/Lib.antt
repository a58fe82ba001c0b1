-- Shape codes; then what inner contracts cite.
pub mod Codes
pub mod Inner
