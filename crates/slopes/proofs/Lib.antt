-- Figures in a list.
pub mod Filling
