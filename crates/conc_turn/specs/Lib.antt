pub mod TurnRule
pub mod Views
pub mod Seats
pub mod Turns
