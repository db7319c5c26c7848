-- Laws that the proofs of `parser` cite.
pub mod ByteLaws
pub mod DigitLaws
pub mod ScalarLaws
pub mod ReadingLaws
pub mod ReaderLaws
pub mod NameLaws
