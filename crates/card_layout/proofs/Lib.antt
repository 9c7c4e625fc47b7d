pub mod Cards
pub mod Back
pub mod Several
