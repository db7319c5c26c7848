-- Laws that the proofs of `printer` cite.
pub mod ReadLaws
pub mod StateLaws
pub mod NumberLaws
pub mod ErrorLaws
pub mod OverLaws
pub mod LayLaws
pub mod PieceLaws
pub mod ArmLaws
pub mod TextLaws
pub mod TagLaws
pub mod ToldLaws
pub mod NeedLaws
pub mod WithinLaws
pub mod LeafLaws
pub mod CycleLaws
