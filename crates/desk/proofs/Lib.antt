-- Laws of a list that is copied in parts, and of the point records.
pub mod Records
pub mod Blocks
