pub mod Slots
pub mod Instances
mod Walking
mod Moving
