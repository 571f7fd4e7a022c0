-- The lemmas of entries. Assumes nothing.
pub mod Bits
pub mod Listing
pub mod Adding
pub mod Digits
pub mod Decoding
pub mod Walking
