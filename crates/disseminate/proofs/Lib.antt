pub mod Dying
pub mod Pushing
pub mod Noting
pub mod Trying
pub mod Stepping
pub mod Choosing
pub mod Sifting
