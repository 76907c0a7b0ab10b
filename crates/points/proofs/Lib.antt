pub mod Folding
pub mod Freeing
pub mod Pointing
pub mod Testing
