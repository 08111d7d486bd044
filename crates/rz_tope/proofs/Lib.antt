pub mod Adding
pub mod AnswerTables
pub mod TopeNodes
pub mod Naming
pub mod Walking
