pub mod Machine
pub mod Matching
pub mod Programs
pub mod Searching
pub mod Trees
