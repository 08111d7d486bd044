pub mod Sequent
pub mod Decision
pub mod Parts
