pub mod Notes
pub mod KindTexts
pub mod Ends
pub mod EndView
