pub mod HeldLemmas
pub mod Progress
pub mod SinkLemmas
