pub mod Items
pub mod Part
pub mod Lines
pub mod Words
pub mod Numeral
pub mod Outline
pub mod Reading
