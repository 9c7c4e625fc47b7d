pub mod Cipher
pub mod Range
pub mod Generator
