pub mod Words
pub mod Reads
pub mod Held
pub mod WalkEnds
