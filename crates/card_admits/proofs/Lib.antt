pub mod Kept
pub mod Walks
