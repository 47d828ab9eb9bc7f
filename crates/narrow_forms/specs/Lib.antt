pub mod Lines
pub mod Number
pub mod Reads
pub mod Answers
pub mod ScriptLine
pub mod Script
