pub mod Sorted
pub mod Numbers
pub mod Places
pub mod Steps
