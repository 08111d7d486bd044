pub mod Letters
pub mod Conclude
pub mod Behind
pub mod Moves
