pub mod Ways
pub mod Order
pub mod Policy
pub mod Victim
