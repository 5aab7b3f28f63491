pub mod Faults
pub mod Characters
pub mod Numbers
pub mod Comments
pub mod Tokens
pub mod Layout
pub mod Laws
