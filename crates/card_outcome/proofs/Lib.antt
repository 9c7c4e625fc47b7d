pub mod Laws
pub mod Keyed
pub mod Entry
pub mod Refusals
pub mod Every
pub mod Frames
