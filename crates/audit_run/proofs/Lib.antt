pub mod ActLaws
pub mod Firsts
pub mod HoldLaws
pub mod PlayLaws
