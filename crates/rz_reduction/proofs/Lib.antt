pub mod Views
pub mod Coordinates
pub mod Place
pub mod Asks
pub mod Steps
pub mod Turns
pub mod Depth
mod Samples
mod WorkedSteps
mod WorkedRuns
mod WorkedComparisons
