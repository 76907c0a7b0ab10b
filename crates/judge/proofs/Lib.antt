pub mod Judging
pub mod Marking
pub mod Rows
