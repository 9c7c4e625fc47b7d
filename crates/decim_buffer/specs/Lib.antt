pub mod Buffers
pub mod Entries
pub mod Range
