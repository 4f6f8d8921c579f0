pub mod Slots
pub mod Space
pub mod Rows
pub mod Frames
pub mod Sheet
pub mod Tallies
pub mod Turning
pub mod Fresh
