pub mod Judging
pub mod Sifting
pub mod Ending
pub mod Rule
pub mod Laws
