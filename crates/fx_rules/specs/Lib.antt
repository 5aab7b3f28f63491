pub mod Turned
pub mod Steps
pub mod SingleSteps
