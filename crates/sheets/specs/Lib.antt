-- What the contracts of sheets cite. Assumes nothing.
pub mod Outlines
pub mod Spelling
pub mod Lawful
pub mod Layout
pub mod Formulas
pub mod Parts
pub mod Reading
pub mod Exactly
pub mod Loading
pub mod Standing
pub mod Faults
pub mod Texts
