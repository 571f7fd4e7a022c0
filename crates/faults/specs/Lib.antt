-- What the contracts of refusals cite. Assumes nothing.
pub mod Checks
pub mod Texts
