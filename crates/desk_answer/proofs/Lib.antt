-- Theorems of the desk readings' answers; what the steps of a reading say; a copy through a block.
pub mod Apart
pub mod Same
pub mod Steps
pub mod Blocks
