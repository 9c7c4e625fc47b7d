pub mod Claim
pub mod Prepared
