-- The theorems, each in the file of the definitions that it is about.
pub mod Exactly
pub mod Plain
pub mod Restarts
pub mod Worked
pub mod Salvages
pub mod WorkedSalvage
pub mod Placed
pub mod Survives
pub mod Crowded
