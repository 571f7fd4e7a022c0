-- The lemmas of rules. Assumes nothing.
pub mod Stacks
pub mod Steps
pub mod Walks
pub mod Unwind
pub mod Reading
pub mod Spelt
pub mod Grounds
pub mod Ranges
pub mod Assembling
pub mod Adding
pub mod Depths
pub mod Widths
pub mod Standing
pub mod Making
pub mod Starts
