pub mod Grammar
pub mod Lists
pub mod Threads
pub mod Building
pub mod Levels
pub mod Source
