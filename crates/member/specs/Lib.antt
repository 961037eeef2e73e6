-- How rows carry the list of the rules, the test of soundness, and how it seeks an address.
pub mod Views
pub mod Packing
pub mod Soundness
pub mod Drawers
