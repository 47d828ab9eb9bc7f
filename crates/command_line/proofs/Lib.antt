pub mod CommandLemmas
pub mod RowsLemmas
pub mod GivenLemmas
