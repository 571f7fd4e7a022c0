-- The lemmas of the worked examples. Assumes nothing.
pub mod CallLaws
pub mod TableLaws
pub mod WanderLaws
