pub mod Change
pub mod Held
