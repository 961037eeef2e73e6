pub mod Promises
pub mod Laws
pub mod Lookups
