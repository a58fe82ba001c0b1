-- Laws of the two records of the segment read.
pub mod Records
