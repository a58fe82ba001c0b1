-- Laws and tactics that other crates cite.
pub mod Tests
pub mod Integer
pub mod Poly
pub mod Ring
pub mod Order
pub mod Field
pub mod Fractions
pub mod Floor
pub mod Rounding
pub mod Mixed
pub mod Identities
pub mod Signed
pub mod Magnitude
pub mod Bits
