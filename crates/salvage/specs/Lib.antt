pub mod Salvage
pub mod Views
pub mod Rule
