-- What the contracts of watches cite. Assumes nothing.
pub mod Faults
pub mod Texts
pub mod Readings
pub mod Calls
pub mod Watching
pub mod Runs
pub mod Worth
pub mod Surveys
