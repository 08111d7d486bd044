pub mod Claim
pub mod Leading
pub mod Order
pub mod Part
pub mod Place
pub mod Proving
pub mod Ranks
pub mod Reading
