-- Proofs of `text`.
pub mod Digits
pub mod Examples
