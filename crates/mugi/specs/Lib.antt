pub mod Cipher
pub mod Steps
pub mod Range
pub mod Generator
