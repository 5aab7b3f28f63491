pub mod TreeOf
pub mod Coding
pub mod LawfulFunction
pub mod Parts
pub mod FunctionOf
pub mod SizeOf
