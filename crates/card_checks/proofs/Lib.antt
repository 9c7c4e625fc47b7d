pub mod Changes
pub mod Glances
pub mod Loaded
pub mod Walks
