pub mod NoThrowTo
pub mod EagerRules
pub mod Paths
pub mod SetLaws
