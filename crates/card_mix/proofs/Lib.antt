pub mod Sums
pub mod Columns
pub mod Parts
pub mod Mixes
pub mod Cases
