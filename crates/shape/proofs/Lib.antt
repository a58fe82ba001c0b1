-- The shape of a segment in machine numbers.
pub mod Codes
pub mod Figures
pub mod Tests
