pub mod Held
pub mod Store
pub mod Pieces
pub mod Counted
pub mod Tricks
pub mod Made
