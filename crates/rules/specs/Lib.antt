-- What the contracts of rules cite. Assumes nothing.
pub mod Spelling
pub mod Lawful
pub mod Assemble
pub mod Assembled
pub mod Spans
pub mod Lines
pub mod Nodes
pub mod Needs
pub mod Totals
pub mod Standing
pub mod Rules
pub mod Parts
pub mod Places
pub mod Faults
pub mod Texts
