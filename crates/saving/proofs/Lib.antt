pub mod Ordering
pub mod Keeping
pub mod Restoring
