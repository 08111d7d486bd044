pub mod Fronts
pub mod Fixed
pub mod Gaps
pub mod Choice
pub mod Counts
pub mod Reading
pub mod Cuts
