-- What the contracts of the layout cite. Assumes nothing.
pub mod Cells
pub mod Shape
pub mod Slots
pub mod Steps
pub mod Rows
