-- The text of a curve file's sheet, in document 01's order.
pub mod SheetText
pub mod Laws
