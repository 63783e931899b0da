pub mod Passing
pub mod Operations
pub mod Stranding
pub mod Entered
pub mod Fitting
pub mod Legal
