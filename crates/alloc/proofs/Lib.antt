pub mod Examples
pub mod Filled
pub mod First
pub mod Opening
pub mod Opens
