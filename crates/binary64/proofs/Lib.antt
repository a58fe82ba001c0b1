-- Laws that other crates cite.
pub mod Values
mod Wholes
pub mod Laws
