-- The lemmas of watches. Assumes nothing.
pub mod HeadFaults
pub mod RowFaults
pub mod RowLists
pub mod StepLaws
pub mod ExcerptLaws
pub mod PlayLaws
pub mod RunLaws
pub mod WorthLaws
pub mod AskLaws
pub mod SurveyLaws
