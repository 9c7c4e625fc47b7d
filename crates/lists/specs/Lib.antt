pub mod Logs
pub mod OneStream
pub mod Counted
pub mod Trunk
pub mod Parking
pub mod Steps
