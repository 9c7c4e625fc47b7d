pub mod Fronts
mod Keys
