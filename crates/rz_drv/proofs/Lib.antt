pub mod Decimals
pub mod Grammar
pub mod Texts
pub mod Sorts
pub mod Runs
pub mod Readings
pub mod Spellings
pub mod Writings
