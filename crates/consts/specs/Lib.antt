pub mod Consts
pub mod Kinds
pub mod Pretty
pub mod Refusals
pub mod Runs
