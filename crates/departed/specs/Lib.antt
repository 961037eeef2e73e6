pub mod Views
pub mod Packing
