pub mod Walk
pub mod Made
pub mod Tasks
pub mod Sorts
pub mod Within
