pub mod Decided
pub mod Settling
pub mod Padding
pub mod Testing
