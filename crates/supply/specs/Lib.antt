-- What a host has to lend: draws for each call, and a fresh wait record to a node that is full.
pub mod Supplied
pub mod Shuffles
pub mod Entries
pub mod Lending
pub mod Numbered
pub mod Needed
pub mod Owed
pub mod Drains
pub mod Remedy
pub mod Wedged
pub mod Meanwhile
pub mod Exactly
