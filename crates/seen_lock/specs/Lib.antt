pub mod Order
pub mod Steps
pub mod Seats
pub mod Views
pub mod Words
pub mod Lists
pub mod Taken
