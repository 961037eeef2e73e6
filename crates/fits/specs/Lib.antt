pub mod Sizes
pub mod Length
pub mod Letters
pub mod Loosest
