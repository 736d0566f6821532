pub mod Handed
pub mod Layout
