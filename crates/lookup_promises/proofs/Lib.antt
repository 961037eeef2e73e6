-- The theorems, each in the file of the definitions that it is about.
pub mod Lookups
