pub mod Again
pub mod Holding
pub mod Telling
