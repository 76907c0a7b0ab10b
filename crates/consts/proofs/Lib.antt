pub mod Examples
pub mod Items
pub mod Listing
pub mod Meaning
pub mod Refusals
pub mod Runs
pub mod Sound
