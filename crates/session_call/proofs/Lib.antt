pub mod Bounds
pub mod Uses
mod Answers
