pub mod Text6
pub mod Numerals
pub mod Scanning
pub mod Lengths
pub mod TextBounds
