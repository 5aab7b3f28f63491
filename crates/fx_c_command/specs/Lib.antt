pub mod Words
pub mod WordsView
pub mod Printed
pub mod Promise
pub mod Calls
