pub mod Readings
pub mod Growth
mod Outcomes
mod PlanReadings
mod Walking
mod Within
