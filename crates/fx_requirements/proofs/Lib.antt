pub mod Places
pub mod Passes
pub mod Ends
pub mod Ranged
