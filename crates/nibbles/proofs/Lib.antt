-- The theorems of `nibbles` (`Utf8`), examples by computation (`Bench`), and the laws that the proofs cite.
pub mod Utf8
pub mod Bench
pub mod Utf8Laws
pub mod NibbleLaws
pub mod TailLaws
pub mod StepLaws
pub mod UintLaws
