pub mod Shares
pub mod Boxes
pub mod Nodes
pub mod Taken
pub mod Raised
pub mod Quickly
