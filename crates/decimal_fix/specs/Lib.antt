pub mod Comparing
pub mod Laws
pub mod Leading
pub mod Numerals
pub mod Reading
pub mod Rounding
pub mod Writing
