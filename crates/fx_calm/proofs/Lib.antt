pub mod Sizes
pub mod Counted
pub mod Tests
pub mod Limits
pub mod Leasts
pub mod Found
pub mod Division
pub mod Turned
pub mod Decided
mod WorkedSums
pub mod Units
pub mod Walked
pub mod Placed
pub mod Templates
