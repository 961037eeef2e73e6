pub mod Changes
pub mod Counted
pub mod Turns
pub mod Walking
pub mod Admitting
pub mod Audits
pub mod Once
pub mod Timed
