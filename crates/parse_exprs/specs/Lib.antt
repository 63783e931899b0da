pub mod Exprs
pub mod operands
