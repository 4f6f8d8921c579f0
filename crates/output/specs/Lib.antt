pub mod Digits
pub mod Outputs
