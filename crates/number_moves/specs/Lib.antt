pub mod Going
pub mod Lines
pub mod operations
pub mod rests
