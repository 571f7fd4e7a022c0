-- What the contracts of logs cite. Assumes nothing.
pub mod Log
pub mod Lookup
pub mod Marks
pub mod Lawful
pub mod Timeline
pub mod Faults
pub mod Texts
