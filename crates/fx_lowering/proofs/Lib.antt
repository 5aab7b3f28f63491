pub mod Ordered
pub mod InOrder
pub mod CodesBy
pub mod Lowered
pub mod Operands
