-- Laws that several proofs cite.
pub mod NumberLaws
pub mod PowerLaws
