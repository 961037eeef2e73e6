-- What holds of a C program's calls.
pub mod Runs
pub mod Letters
