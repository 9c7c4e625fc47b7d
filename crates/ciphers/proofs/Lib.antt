pub mod States
pub mod Rows
pub mod Sound
pub mod Numbers
pub mod Kept
pub mod Along
