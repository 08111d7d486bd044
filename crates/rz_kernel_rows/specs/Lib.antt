pub mod Leaves
pub mod Line
pub mod Context
pub mod Move
pub mod Typing
pub use Rattle.rz_rules.specs.Derivation
