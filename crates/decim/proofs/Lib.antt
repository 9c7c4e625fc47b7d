pub mod Loading
pub mod Filling
pub mod Bytes
pub mod Ranges
pub mod Turns
