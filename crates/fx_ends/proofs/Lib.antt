pub mod Noted
mod Columns
