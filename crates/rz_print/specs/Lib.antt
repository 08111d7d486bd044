pub mod Level
pub mod Layout
pub mod Text
pub mod Words
pub mod Printing
pub mod Reading
pub mod Meaning
