pub mod Characters
pub mod Sets
pub mod Repeats
pub mod Parts
pub mod Reading
pub mod Grammar
