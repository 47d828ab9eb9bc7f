pub mod Same
pub mod Members
pub mod Walks
pub mod Rounds
pub mod Keys
pub mod Chains
pub mod Climbs
pub mod Limits
pub mod Ties
pub mod PropertyRow
pub mod Splits
pub mod TableLaws
pub mod FacetRows
mod CycleRows
