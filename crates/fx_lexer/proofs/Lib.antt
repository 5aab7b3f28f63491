pub mod Items
pub mod Inside
pub mod Lexemes
pub mod Nesting
pub mod Fronts
pub mod Layouts
pub mod KindLaws
pub mod PlaceLaws
