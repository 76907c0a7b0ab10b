pub mod Bytes
pub mod Reading
pub mod Standing
