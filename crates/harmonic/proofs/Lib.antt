-- Laws of the harmonic rule.
pub mod Quotients
pub mod Chords
pub mod Rising
pub mod Answers
pub mod Figures
pub mod Laws
pub mod Examples
