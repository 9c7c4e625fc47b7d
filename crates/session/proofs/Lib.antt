mod Read
mod Sofar
pub mod Left
pub mod Demands
