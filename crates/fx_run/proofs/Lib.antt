pub mod Fields
pub mod Honest
pub mod HonestRun
pub mod Blocks
