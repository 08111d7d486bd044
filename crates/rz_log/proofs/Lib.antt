mod Firsts
mod Logs
pub mod Worlds
mod Reaching
pub mod Derived
pub mod Saying
pub mod Entailing
