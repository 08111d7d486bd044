pub mod Leading
pub mod Proving
