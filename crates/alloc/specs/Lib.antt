pub mod Early
pub mod Opened
pub mod Opening
