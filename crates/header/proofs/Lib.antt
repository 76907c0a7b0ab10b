pub mod Given
pub mod Reading
pub mod RoundTrip
pub mod Writing
pub mod Written
