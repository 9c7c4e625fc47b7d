pub mod Word
pub mod Strings
pub mod Lists
pub mod Tests
