pub mod Accepting
mod Shown
mod Consumed
mod Migrated
pub mod RowsEnds
pub mod FileEnds
pub mod Told
pub mod SameEnd
pub mod Verdict
pub mod Missing
pub mod Silent
