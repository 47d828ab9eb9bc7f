pub mod Tests
pub mod NeedLaws
pub mod NeedOrder
pub mod Frame
pub mod Commits
pub mod Claims
pub mod PairLists
pub mod Apart
pub mod Tallies
pub mod PairLaws
pub mod EditLaws
pub mod Inserting
pub mod Numbers
pub mod HistoryLaws
pub mod DrainLaws
mod Examples
pub mod ChangeLaws
pub mod PairOrder
pub mod DanglingLaws
pub mod OrderLemmas
pub mod ClosureLaws
pub mod Rows
mod Row15
pub mod Row4
mod Row12
mod Row17
mod Row34
