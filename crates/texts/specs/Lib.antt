-- What the contracts of texts cite. Assumes nothing.
pub mod Decimals
pub mod Fields
pub mod Grids
pub mod Logs
pub mod Numbers
pub mod Parts
pub mod Sentences
