-- Document 01's Pair in definitions.
pub mod Pair
pub mod Calls
