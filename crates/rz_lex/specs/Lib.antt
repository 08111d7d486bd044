pub mod Spelling
pub mod Pieces
pub mod Text
pub mod Places
