pub mod States
pub mod Table
pub mod Fit
pub mod Columns
pub mod Kept
