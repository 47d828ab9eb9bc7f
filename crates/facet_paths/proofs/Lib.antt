pub mod Joins
pub mod Paths
pub mod Empty
pub mod Same
pub mod Firsts
pub mod Elements
pub mod Within
pub mod WalkLaws
