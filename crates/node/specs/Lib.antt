pub mod Views
pub mod Rows
pub mod Parts
pub mod Ends
pub mod Emitting
