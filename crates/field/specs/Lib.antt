pub mod Gf2
pub mod Gf8
pub mod Gf32
pub mod Aes
pub mod Tables
