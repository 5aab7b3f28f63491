pub mod Views
pub mod LawfulTokens
pub mod LawfulNames
pub mod Choice
pub mod Behind
