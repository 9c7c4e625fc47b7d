pub mod Absg
pub mod Tables
