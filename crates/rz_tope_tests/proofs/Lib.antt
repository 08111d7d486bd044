mod Picking
mod Computing
pub mod Asking
