pub mod Rows
pub mod Streams
pub mod Outcomes
pub mod Returned
pub mod Accepts
pub mod Exactly
pub mod Changed
pub mod Program
