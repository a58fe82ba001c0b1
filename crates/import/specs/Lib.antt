-- Document 02, item 7: Import, and what is proved of it.
pub mod Import
pub mod Calls
pub mod Laws
pub mod Examples
