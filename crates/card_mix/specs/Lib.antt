pub mod Sums
pub mod Parts
pub mod Columns
pub mod Cases
