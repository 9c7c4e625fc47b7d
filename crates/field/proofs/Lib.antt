pub mod Additive
pub mod Elements
pub mod Columns
pub mod Turns
pub mod Ring
pub mod Inverses
