mod Puts
mod Done
mod Showing
mod Least
mod Covering
mod Whole
mod Doable
