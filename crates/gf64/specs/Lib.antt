pub mod Gf64
pub mod Cases
