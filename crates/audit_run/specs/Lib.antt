pub mod Acts
pub mod Holding
pub mod Runs
