pub mod Order
pub mod Roles
pub mod Untouched
