pub mod Bench
pub mod Sequent
