-- Laws that other crates cite.
mod Limits
mod Taking
mod Rows
mod Decoding
mod OneList
pub mod Sizes
