pub mod Walk
pub mod OnWords
