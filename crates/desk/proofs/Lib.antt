-- The lemmas of the desk. Assumes nothing.
pub mod BandLaws
pub mod ColumnLaws
pub mod FrameLaws
pub mod FollowLaws
pub mod PairLaws
pub mod HearLaws
pub mod SummaryLaws
pub mod DecimalLaws
pub mod ReportLaws
pub mod PictureLaws
pub mod RowLaws
pub mod TableLaws
pub mod TickLaws
