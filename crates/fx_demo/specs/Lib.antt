pub mod Source
pub mod Rows
pub mod LastLine
pub mod Demonstration
