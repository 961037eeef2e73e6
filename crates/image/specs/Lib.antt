pub mod Image
pub mod Forms
pub mod Versions
pub mod Round
pub mod Chosen
pub mod Views
