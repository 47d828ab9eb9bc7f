pub mod TreeModels
pub mod Putting
pub mod Doing
pub mod Least
pub mod Covering
