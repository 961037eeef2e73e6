pub mod Outgoing
pub mod Laying
pub mod Sending
