-- Laws that the proofs of `lines` cite.
pub mod HexLaws
