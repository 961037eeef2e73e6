pub mod Writing
pub mod Parsing
pub mod Reading
pub mod Back
pub mod RoundTrip
pub mod Letters6
