pub mod Walks
pub mod OnWords
