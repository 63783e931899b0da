pub mod Forms
pub mod Progress
pub mod Sends
pub mod Terms
pub mod Walking
