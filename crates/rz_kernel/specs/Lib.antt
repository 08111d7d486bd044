pub mod Answer
pub mod State
pub mod Run
pub use Rattle.rz_rules.specs.File
