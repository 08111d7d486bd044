pub mod Log
pub mod Index
pub mod Reachable
pub mod World
pub mod Entail
