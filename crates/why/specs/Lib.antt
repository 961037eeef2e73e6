pub mod Why
pub mod Stopped
