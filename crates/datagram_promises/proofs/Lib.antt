-- The theorems, each in the file of the definitions that it is about.
pub mod Lengths
pub mod Growth
pub mod Least
pub mod Exactly
pub mod Back
pub mod Malformed
pub mod Rfc5952
pub mod Texts
pub mod Groups
pub mod AnyField
pub mod AnyLength
pub mod Skipped
pub mod Repeated
pub mod Written
