-- Lemmas of logs. Assumes nothing.
pub mod LookupLaws
pub mod OrderLaws
pub mod MarkLaws
pub mod LogLaws
pub mod LawfulLaws
