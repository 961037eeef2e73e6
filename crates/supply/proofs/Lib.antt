-- The theorems, each in the file of the definitions that it is about.
pub mod Supplied
pub mod Shuffles
pub mod Entries
pub mod Lending
pub mod Needed
pub mod Owed
pub mod Drains
pub mod Remedy
pub mod Wedged
pub mod Meanwhile
pub mod Exactly
pub mod Slowest
pub mod Built
