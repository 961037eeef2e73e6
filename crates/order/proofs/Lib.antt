-- The laws that the functions' proofs cite: the turns of a shuffle, an advance, the looks of a pick.
pub mod Turns
pub mod Advancing
pub mod Picking
mod Shifting
