pub mod Formula
pub mod Laws
pub mod Margin
pub mod Meaning
