pub mod ScriptLines
pub mod Serial
pub mod Output
pub mod ScriptOrder
pub mod Telling
pub mod RunLaws
