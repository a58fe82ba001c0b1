-- Laws of the calls.
pub mod Entries
