pub mod GridValues
pub mod GridSums
pub mod GridTests
pub mod GridReadings
