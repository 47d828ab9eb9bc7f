pub mod Sums
pub mod Tickets
pub mod Logs
pub mod Slots
pub mod Views
pub mod Moves
pub mod Deals
pub mod Ends
