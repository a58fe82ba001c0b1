-- The C interface.
pub mod Exports
pub mod Laws
