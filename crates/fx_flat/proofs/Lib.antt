pub mod Growth
mod Pushing
mod Turns
pub mod Ordered
pub mod Pairs
