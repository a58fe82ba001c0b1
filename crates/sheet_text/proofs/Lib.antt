-- Proofs of `sheet_text`.
pub mod Lines
pub mod Rows
pub mod Laws
