pub mod Claims
pub mod Needs
pub mod Moves
pub mod Extract
