pub mod Decode
pub mod Refused
pub mod Rows
pub mod MarkBytes
pub mod HeaderBytes
pub mod Distinct
