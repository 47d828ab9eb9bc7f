pub mod Tokens
pub mod Steps
pub mod Entities
pub mod Schemas
pub mod Lexical
pub mod Grammar
