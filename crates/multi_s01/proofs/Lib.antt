pub mod Stream
pub mod Multi
pub mod Chains
pub mod Lowest
pub mod Changed
