-- Laws that several proofs cite.
pub mod CopyLaws
pub mod Widths
