-- Text in ASCII.
pub mod Text
pub mod Examples
