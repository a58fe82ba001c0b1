-- Definitions that contracts and theorems cite.
pub mod Fraction
pub mod Rounding
pub mod Identities
pub mod Inner
