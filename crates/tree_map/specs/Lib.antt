pub mod Groups
pub mod Ordered
pub mod Pairs
pub mod Places
pub mod Roots
pub mod Top
