-- Laws that the proofs of `demangle` cite: the grammar's, from those of runs and readings to what is claimed; the desk's; and what the
-- answers mean.
pub mod RunLaws
pub mod ReadLaws
pub mod SoundLaws
pub mod ClosedLaws
pub mod GrowLaws
pub mod DerivationLaws
pub mod CompleteLaws
pub mod GrammarLaws
pub mod EndLaws
pub mod PrefixLaws
pub mod JudgeLaws
pub mod WithinLaws
pub mod RowLaws
pub mod Unique
pub mod Meaning
pub mod Bench
