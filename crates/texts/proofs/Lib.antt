pub mod Decimal
pub mod Examples
pub mod Puts
pub mod Texts
