-- The theorems, each in the file of the definitions that it is about.
pub mod Did
pub mod Rules
pub mod Walk
pub mod WalkSteps
pub mod Worlds
pub mod Chain
pub mod Next
pub mod Demand3
pub mod Auditor
pub mod Started
pub mod Taken
pub mod Uncollected
pub mod Unread
