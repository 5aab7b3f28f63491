pub mod InPlace
pub mod NodeOf
