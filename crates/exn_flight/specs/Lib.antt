pub mod Asleep
pub mod Flights
pub mod Numbered
pub mod Tables
pub mod Throwing
pub mod Tournaments
