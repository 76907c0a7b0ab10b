pub mod Bytes
pub mod Demand
