pub mod Equations
pub mod EquationsOfActions
