-- What the contracts of the calls over words cite.
pub mod Reading
pub mod Writing
pub mod Back
pub mod Leaving
pub mod Nowhere
