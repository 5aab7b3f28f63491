pub mod Events
pub mod NodePage
pub mod Faults
pub mod Units
pub mod Steps
