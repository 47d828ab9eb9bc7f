pub mod Views
pub mod Trees
pub mod Dangles
pub mod Findings
pub mod Answers
