pub mod Mail
pub mod Cabinets
pub mod Datagrams
