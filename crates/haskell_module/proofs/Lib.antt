pub mod Apart
pub mod Written
