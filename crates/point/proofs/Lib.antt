-- Laws of rows 3 to 5 at one point, and its figures in machine numbers.
pub mod Area
pub mod Figures
