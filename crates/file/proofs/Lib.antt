-- Laws of Open and Write that other crates cite.
pub mod Filled
pub mod Room
pub mod Opening
pub mod Writing
pub mod Laws
