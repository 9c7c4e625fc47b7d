pub mod Shared
pub mod Bytes
pub mod Runs
pub mod Tested
pub mod Pair
