pub mod Seeking
pub mod Marking
pub mod Remembering
