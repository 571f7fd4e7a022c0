-- What the contracts of entries cite. Assumes nothing.
pub mod Heads
pub mod Iter
pub mod Kinds
pub mod Operations
pub mod Decode
pub mod Writing
