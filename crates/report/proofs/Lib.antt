mod Figures
pub mod Sheet
pub mod Balance
