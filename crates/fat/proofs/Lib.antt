pub mod Differing
pub mod Listing
pub mod Loading
