pub mod Judged
pub mod Keeps
pub mod KeepsCalls
