pub mod Agree
pub mod Agrees
pub mod Parts
