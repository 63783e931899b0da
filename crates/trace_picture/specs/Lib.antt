pub mod Looking
pub mod Picturing
pub mod Shooting
pub mod film
