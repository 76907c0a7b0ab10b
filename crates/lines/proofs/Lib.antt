pub mod Fits
pub mod Lined
