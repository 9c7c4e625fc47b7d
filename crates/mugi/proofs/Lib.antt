pub mod Blocks
pub mod Steps
pub mod Ranges
pub mod Filling
pub mod Rotations
