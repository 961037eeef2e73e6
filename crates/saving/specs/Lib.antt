pub mod Saving
pub mod Views
