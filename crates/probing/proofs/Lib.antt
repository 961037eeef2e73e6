-- The theorems, each in the file of the definitions that it is about.
pub mod Probed
pub mod Looks
pub mod Still
pub mod Pinged
pub mod Sharp
pub mod Sent
pub mod Meets
