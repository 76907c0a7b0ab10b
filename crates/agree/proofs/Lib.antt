pub mod Comparing
pub mod Listing
pub mod Judging
pub mod Accepting
pub mod Lent
pub mod Agreeing
pub mod Meaning
