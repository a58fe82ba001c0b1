-- The curve file; then what inner contracts cite.
pub mod Layout
pub mod Head
pub mod Inner
