-- The theorems, each in the file of the definitions that it is about.
pub mod Sizes
pub mod Chosen
pub mod Length
pub mod Letters
pub mod Loosest
