-- What the contracts of the exported calls for bytes cite.
pub mod Promised
