pub mod Causes
pub mod Read
pub mod Versions
pub mod Write
