pub mod Lists
pub mod Loaded
