-- What the contracts of records cite. Assumes nothing.
pub mod Model
pub mod Limits
pub mod Faults
pub mod Texts
pub mod Grid
pub mod Excerpt
