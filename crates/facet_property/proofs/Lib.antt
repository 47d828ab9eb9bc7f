pub mod Lists
pub mod Three
pub mod Drawn
pub mod Asking
pub mod Stored
pub mod Sentence
pub mod Weighed
pub mod Whole
