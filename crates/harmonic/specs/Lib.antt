-- Slopes by the harmonic rule, in document 02's order.
pub mod Rule
pub mod Fill
pub mod Laws
pub mod Examples
pub mod Inner
