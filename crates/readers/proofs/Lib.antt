-- What the proofs cite.
pub mod TextLaws
