pub mod Counting
pub mod Fitting
pub mod Growing
pub mod Keeping
pub mod Storing
