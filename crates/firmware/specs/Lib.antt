-- What the contracts of firmware cite. Assumes nothing.
pub mod Cells
pub mod Plays
pub mod Made
pub mod Refusals
pub mod Surveys
