pub mod Bits
pub mod Weights
pub mod Windows
pub mod Solving
pub mod Counting
pub mod Feeding
pub mod Ranges
pub mod Moves
