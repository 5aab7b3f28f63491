pub mod Rooms
pub mod Outcome
pub mod Promise
pub mod Ending
pub mod Running
pub mod Printed
pub mod RowLaws
