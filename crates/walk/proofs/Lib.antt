pub mod Chains
pub mod Exactly
pub mod Examples
pub mod Judged
pub mod Listing
pub mod Steps
pub mod Walking
