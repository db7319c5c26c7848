-- Laws that the proofs of `exports` cite.
pub mod ReportLaws
