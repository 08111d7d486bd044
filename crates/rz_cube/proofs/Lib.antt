pub mod NodeTrees
pub mod ListPlaces
pub mod Cubes
pub mod Caching
pub mod CachedPoints
pub mod PathTables
