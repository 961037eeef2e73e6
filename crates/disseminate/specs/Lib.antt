pub mod Fit
pub mod Views
