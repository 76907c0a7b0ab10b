pub mod Freeing
pub mod Holding
pub mod Linking
pub mod Pointing
pub mod Taking
