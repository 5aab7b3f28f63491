mod Appended
mod Taken
mod Whole
mod HeaderPieces
