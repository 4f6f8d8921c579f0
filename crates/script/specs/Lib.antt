pub mod Commands
pub mod Fields
pub mod Lines
pub mod Readings
pub mod Spans
