pub mod WordsSideBySide
pub mod RowsSideBySide
