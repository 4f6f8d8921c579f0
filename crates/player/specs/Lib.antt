pub mod Drives
pub mod Players
pub mod Printed
