-- The third demand, over every way to read a factor; document 01's file as an example.
pub mod FactorRead
pub mod Demands
pub mod Filed
pub mod Imported
pub mod FiledTwice
pub mod Example
