pub mod Runs
pub mod Apart
pub mod Printed
pub mod Given
pub mod Taken
pub mod Start
pub mod Lines
