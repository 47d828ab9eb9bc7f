pub mod Nest
pub mod Grammar
pub mod Letters
