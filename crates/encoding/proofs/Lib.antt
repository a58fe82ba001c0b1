-- Laws of the file of a curve that other crates cite.
pub mod Pieces
pub mod Words
pub mod Records
pub mod Windows
pub mod RoundTrip
