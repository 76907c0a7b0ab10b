pub mod Encoded
pub mod Formed
pub mod Given
pub mod Meaning
pub mod Sound
