-- The laws that the functions' proofs cite: tables and places, lookups, each change of the rows, the counts, and the probing of the order.
pub mod Tables
pub mod Changing
pub mod Probing
pub mod Lighting
