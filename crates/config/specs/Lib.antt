pub mod Numbers
pub mod Policies
pub mod Reasons
pub mod Config
pub mod Cases
