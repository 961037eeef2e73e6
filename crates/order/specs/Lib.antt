-- How rows carry the rules of the probing order.
pub mod Views
pub mod Changes
pub mod Ends
