-- Laws of Import, and examples by computation.
pub mod Laws
pub mod Examples
mod Taking
