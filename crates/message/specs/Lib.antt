pub mod Views
pub mod Drawn
pub mod Acting
pub mod Hearing
pub mod Answers
pub mod Outcomes
pub mod Tested
pub mod Bounded
