-- Laws that several proofs cite.
pub mod PolicyLaws
pub mod SetLaws
