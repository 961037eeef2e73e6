pub mod Conditions
pub mod Acts
pub mod Explained
pub mod Told
pub mod Plain
pub mod Stored
