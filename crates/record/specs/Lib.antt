pub mod Decoding
pub mod Contents
pub mod Marks
pub mod Headers
