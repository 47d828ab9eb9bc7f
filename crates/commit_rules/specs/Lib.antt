pub mod Overlays
pub mod Dangles
