-- Laws that the proofs of `punycode` cite.
pub mod DigitLaws
pub mod DeltaLaws
pub mod AdaptLaws
pub mod PlaceLaws
pub mod TurnLaws
pub mod SpellLaws
pub mod Bench
