-- The theorems, each in the file of the definitions that it is about.
pub mod Each
pub mod Heaps
pub mod Cabinets
pub mod Passing
pub mod Rules
pub mod Calls
pub mod Picking
pub mod Waiting
pub mod Ending
pub mod Rows
pub mod Alone
pub mod Hearing
pub mod Standing
pub mod NoForgedDeath
pub mod NoForgedSuspicion
pub mod Witness
