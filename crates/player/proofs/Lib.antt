pub mod Ready
pub mod SmallChip
