mod RunExamples
pub mod RunLaws
pub mod RunLegal
pub mod Telling
