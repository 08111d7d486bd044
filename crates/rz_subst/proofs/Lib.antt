pub mod Places
pub mod Staying
pub mod Sharing
pub mod Jobs
pub mod Making
pub mod Answering
pub mod PutVariables
pub mod Steps
