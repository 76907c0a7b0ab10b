pub mod Coded
pub mod Demand
pub mod Tails
pub mod Whole
