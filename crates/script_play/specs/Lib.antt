pub mod FirstPieces
pub mod Pieces
pub mod Remainder
pub mod Progress
