pub mod Rooms
pub mod Operands
pub mod Zero
