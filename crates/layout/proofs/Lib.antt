-- Laws of the curve file that other crates cite.
pub mod Numbers
pub mod Heads
pub mod Points
