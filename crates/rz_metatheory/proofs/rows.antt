pub mod Topes
pub mod Terms
pub mod Typing
pub mod Contexts
pub mod Computation
pub mod Congruence
pub mod Inversion
pub mod Table
