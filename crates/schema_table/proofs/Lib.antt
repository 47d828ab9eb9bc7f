pub mod Readying
pub mod Relating
pub mod Lookups
pub mod Inheriting
pub mod Sharing
pub mod Redeclaring
pub mod Ordering
pub mod Cycling
pub mod Doubling
pub mod Checking
pub mod Indexing
pub mod Positions
pub mod LawProofs
pub mod Numbers
pub mod Chains
pub mod Bounds
mod Examples
