-- Open and Write, in the documents' order; then what inner contracts cite.
pub mod Open
pub mod Write
pub mod Calls
pub mod Laws
pub mod Inner
