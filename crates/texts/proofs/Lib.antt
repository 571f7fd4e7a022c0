-- Lemmas of texts. Assumes nothing.
pub mod PartLaws
pub mod FieldLaws
pub mod NumberLaws
pub mod RowLaws
pub mod GridSense
pub mod DecimalLaws
pub mod PercentLaws
pub mod SizeLaws
