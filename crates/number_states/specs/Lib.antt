pub mod Stocks
pub mod States
pub mod Keys
pub mod waits
