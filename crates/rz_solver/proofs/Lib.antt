pub mod Forming
pub mod Following
pub mod Proved
pub mod Jobs
pub mod Cases
pub mod Given
pub mod Writes
pub mod Values
