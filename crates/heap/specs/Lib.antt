pub mod Views
pub mod Deciding
pub mod Kinds
