pub mod Register
pub mod Wide
pub mod Range
