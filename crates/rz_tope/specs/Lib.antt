pub mod Occurrence
pub mod Tope
pub mod Walk
