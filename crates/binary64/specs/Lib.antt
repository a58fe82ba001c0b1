-- Binary64 numbers; what is proved of them; then what inner contracts cite.
pub mod Value
pub mod Laws
pub mod Inner
