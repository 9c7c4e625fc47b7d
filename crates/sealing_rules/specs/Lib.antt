pub mod Sealing
pub mod Clause
pub mod Answer
