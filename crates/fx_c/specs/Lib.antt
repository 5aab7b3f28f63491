pub mod Around
pub mod Choices
