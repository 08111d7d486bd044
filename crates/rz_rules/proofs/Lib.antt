pub mod Tables
pub mod Trees
pub mod Equal
pub mod Validity
mod Sequents
pub mod SubstitutionRuns
pub mod SubstitutionVariables
pub mod Substitution
pub mod Contexts
pub mod Depths
pub mod Same
pub mod Entailment
