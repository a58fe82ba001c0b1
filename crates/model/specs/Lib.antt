-- Document 01, and the shapes of document 02, item 4, in definitions, each after those it uses; then what is said of accepted
-- curves, and what inner contracts cite.
pub mod Answer
pub mod Points
pub mod Interpolant
pub mod Shape
pub mod Check
pub mod Read
pub mod Sheet
pub mod Readings
pub mod Laws
pub mod Inner
