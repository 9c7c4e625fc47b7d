pub mod Table
pub mod Registers
pub mod Ranges
pub mod Xor
pub mod Digits
pub mod Rotations
pub mod Tests
