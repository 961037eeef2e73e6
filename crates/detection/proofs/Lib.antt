pub mod Declared
pub mod Stepping
