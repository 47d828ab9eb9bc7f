pub mod Numbers
pub mod Lists
pub mod Index
pub mod Log
pub mod Changed
pub mod Gathered
