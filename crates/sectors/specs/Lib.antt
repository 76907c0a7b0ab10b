pub mod Init
pub mod Sectors
