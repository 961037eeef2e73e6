pub mod IPv4
pub mod Text
pub mod TextLaws
pub mod Families
pub mod Here
