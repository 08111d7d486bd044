pub mod Point
pub mod Cached
