-- The theorems, each in the file of the definitions that it is about.
pub mod Updated
pub mod Ended
pub mod EndedMet
pub mod SoundNode
pub mod Refusals
pub mod Notice
pub mod Since
pub mod SinceMet
