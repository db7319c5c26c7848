-- Examples by computation (`Bench`), and the laws that the proofs of `pieces` cite.
pub mod Bench
pub mod WritingLaws
pub mod NumeralLaws
pub mod PackedLaws
pub mod TableLaws
pub mod WordLaws
pub mod BasicLaws
pub mod QuotedLaws
pub mod ScalarLaws
pub mod NameLaws
