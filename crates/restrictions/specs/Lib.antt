pub mod Admitting
pub mod Building
pub mod Laws
pub mod Matching
pub mod Numbers
