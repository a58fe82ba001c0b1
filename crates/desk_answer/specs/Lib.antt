-- The desk readings.
pub mod Desk
pub mod Laws
pub mod Inner
