pub mod Measures
pub mod Kept
pub mod EntryCubes
pub mod Uncached
pub mod Growing
pub mod Judging
pub mod Noting
