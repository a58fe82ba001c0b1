-- The answers of the calls.
pub mod Calls
