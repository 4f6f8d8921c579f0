pub mod Digits
pub mod Joins
pub mod Lengths
pub mod Readings
pub mod Texts
