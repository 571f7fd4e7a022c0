pub mod Meanings
pub mod Near
pub mod Opposites
pub mod Stretches
pub mod Verdicts
