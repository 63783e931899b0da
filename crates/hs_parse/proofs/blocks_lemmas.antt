pub mod ArmSteps
pub mod BlockSteps
