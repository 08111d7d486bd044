pub mod Adding
pub mod Judgments
pub mod Runs
