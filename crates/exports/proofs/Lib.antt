-- Theorems of the C interface, and their laws.
pub mod Numbers
pub mod Apart
