pub mod Outside
pub mod Opening
pub mod OpeningView
pub mod Exact
pub mod commands
pub mod Tasks
pub mod Calls
pub mod RowsView
