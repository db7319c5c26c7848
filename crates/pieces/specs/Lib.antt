-- What the contracts of `pieces` cite: a text laid into a buffer, and the text of each piece.
pub mod Laid
pub mod Words
pub mod Numeral
pub mod Packed
pub mod Basic
pub mod Quoted
pub mod Names
pub mod Piece
