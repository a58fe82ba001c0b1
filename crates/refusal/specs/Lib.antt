-- Rows of the refusal table as numbers, results as answers.
pub mod Refusal
