mod Indexes
pub mod Near
pub mod Short
pub mod Fronts
pub mod Agreement
mod Worked
pub mod Lists
pub mod UnitTemplates
pub mod Rounds
pub mod Hulls
pub mod Counted
mod ShortLists
