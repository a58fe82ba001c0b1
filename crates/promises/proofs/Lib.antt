-- The third demand, and examples by computation.
pub mod Demands
pub mod Filed
pub mod Imported
pub mod FiledTwice
pub mod Example
pub mod Steps
