pub mod Frees
pub mod Parts
