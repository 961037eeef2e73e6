-- What several proofs of this crate cite.
pub mod Decoding
pub mod Encoding
pub mod Filling
