pub mod Fits
pub mod Hand
pub mod Held
