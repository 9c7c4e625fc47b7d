pub mod Stream
pub mod Multi
pub mod Chains
