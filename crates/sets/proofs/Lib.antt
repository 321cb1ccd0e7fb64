-- Laws that several proofs cite, and the theorems on the rules.
pub mod OrderLaws
pub mod ClockLaws
pub mod Cases
pub mod OrderKept
pub mod ClockEnds
pub mod SetKept
