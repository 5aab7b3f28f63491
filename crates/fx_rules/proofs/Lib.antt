pub mod SameTree
pub mod Under
pub mod Refers
pub mod Matching
pub mod Rows
pub mod EachRule
pub mod Sound
pub mod Turns
pub mod Whole
mod Worked
