pub mod Apart
pub mod Examples
pub mod Stored
pub mod Writing
pub mod Zeroed
