pub mod Calls
pub mod Causes
pub mod Changes
pub mod Face
pub mod Listed
