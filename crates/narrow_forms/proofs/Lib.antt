pub mod Tools
pub mod ReadSteps
pub mod CutLemmas
pub mod ScriptLaws
