pub mod Bounds
pub mod Cells
pub mod Highest
pub mod Laws
pub mod Order
pub mod Rank
