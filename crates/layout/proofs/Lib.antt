-- The lemmas of the layout. Assumes nothing.
pub mod Frames
pub mod RingLaws
pub mod Slides
pub mod Shapes
pub mod SlotLaws
pub mod Moves
pub mod EntrySteps
pub mod Workings
pub mod Passes
pub mod Holdings
