pub mod Disk
pub mod Fits
pub mod Held
