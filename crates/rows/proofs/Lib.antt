-- Laws of rows 1 to 6 that other crates cite.
pub mod Faults
pub mod Passing
pub mod AsRead
pub mod Lists
