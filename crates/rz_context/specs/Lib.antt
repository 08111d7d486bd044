pub mod Summary
pub mod Knowledge
