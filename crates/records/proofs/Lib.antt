-- Lemmas of records. Assumes nothing.
pub mod ModelLaws
pub mod GridLaws
