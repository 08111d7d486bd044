pub mod Fence
pub mod Code
