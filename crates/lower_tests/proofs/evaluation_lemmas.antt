pub mod SmallestCode
pub mod FirstState
