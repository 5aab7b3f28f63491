pub mod Better
mod Outcomes
mod Promised
