pub mod Logs
pub mod Turns
