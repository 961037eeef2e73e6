pub mod Drawing
pub mod Pings
pub mod Asking
pub mod Requests
