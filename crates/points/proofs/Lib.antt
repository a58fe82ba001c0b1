-- Laws of points in lists that other crates cite.
pub mod Listed
pub mod Copying
