pub mod Views
pub mod Posting
pub mod Ends
