pub mod Agreed
pub mod Lined
