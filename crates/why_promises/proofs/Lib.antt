-- The theorems, each in the file of the definitions that it is about.
pub mod Sole
pub mod Acts
pub mod Explained
pub mod Told
pub mod Plain
pub mod Stored
