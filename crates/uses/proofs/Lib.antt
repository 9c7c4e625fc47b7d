pub mod Twice
pub mod Apart
pub mod Follows
pub mod Once
pub mod Case
