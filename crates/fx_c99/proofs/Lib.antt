mod Rounded
pub mod Rooms
mod Codes
mod Resets
mod Steps
mod Samples
mod Texts
mod Words
mod CExpressions
mod CStatements
mod COneText
mod HeaderLines
mod HeaderNumbers
pub mod HeaderWords
mod Headers
mod Says
mod InputRanges
mod HeaderSamples
