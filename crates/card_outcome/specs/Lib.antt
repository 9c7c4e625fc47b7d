pub mod Outcomes
pub mod Leaves
