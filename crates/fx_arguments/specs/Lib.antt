pub mod Grammar
pub mod Numbers
pub mod Rounding
pub mod Command
pub mod CommandView
pub mod App
pub mod Plain
