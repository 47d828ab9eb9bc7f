pub mod Arriving
pub mod Telling
pub mod Completeness
pub mod Ends
