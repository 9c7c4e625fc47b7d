pub mod Images
pub mod Explained
pub mod Streams
pub mod OneStream
pub mod Parking
pub mod Counted
pub mod Trunk
pub mod Steps
