pub mod Codes
pub mod Reading
pub mod Runs
pub mod Lines
