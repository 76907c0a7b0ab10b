pub mod Listing
pub mod Verdict
