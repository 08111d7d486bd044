pub mod Scope
pub mod Place
pub mod Good
pub mod Derivation
pub mod SmallOrders
