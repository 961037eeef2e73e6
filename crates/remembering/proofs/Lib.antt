-- The theorems, each in the file of the definitions that it is about.
pub mod Entering
pub mod Rows
pub mod Row
pub mod Above
pub mod Counted
pub mod Order
pub mod Standing
pub mod Unasked
pub mod Sane
