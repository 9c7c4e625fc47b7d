pub mod Draws
pub mod Blocks
pub mod Ranges
pub mod Quick
