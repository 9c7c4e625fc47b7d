pub mod Ring
pub mod Inverses
pub mod Cases
