pub mod Views
pub mod Flaws
