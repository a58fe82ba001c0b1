-- Laws of one segment's reading in machine numbers.
pub mod Distances
pub mod HalfUnits
pub mod Mirrored
pub mod RisingReading
pub mod Sizes
pub mod BentReading
