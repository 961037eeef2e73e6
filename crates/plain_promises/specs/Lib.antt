pub mod Ended
pub mod EndedMet
pub mod SoundNode
pub mod Refusals
pub mod Notice
pub mod Since
pub mod SinceMet
