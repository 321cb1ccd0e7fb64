-- Laws that several proofs cite.
pub mod Bases
pub mod Reach
pub mod Sets
pub mod Valid
pub mod Opening
pub mod Cases
pub mod AccessCases
pub mod PlanInside
pub mod AccessKept
pub mod Named
pub mod Room
pub mod Ranges
pub mod Pasted
pub mod OrdersLong
pub mod LevelKept
pub mod FreshFormed
pub mod SweptKept
