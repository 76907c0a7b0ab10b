pub mod Again
pub mod Placing
