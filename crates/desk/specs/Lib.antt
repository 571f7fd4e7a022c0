-- What the contracts of the desk cite. Assumes nothing.
pub mod Amounts
pub mod Answers
pub mod Bands
pub mod Columns
pub mod Follows
pub mod Frames
pub mod Pairs
pub mod Pictures
pub mod Reports
pub mod Rows
pub mod Summaries
pub mod Tables
pub mod Ticks
pub mod Told
