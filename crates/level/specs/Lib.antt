pub mod Refusal
pub mod Opening
