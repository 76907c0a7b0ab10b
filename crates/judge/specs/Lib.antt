pub mod Judge
pub mod Judged
