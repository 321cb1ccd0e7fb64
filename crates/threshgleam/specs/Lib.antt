pub mod SetRules
