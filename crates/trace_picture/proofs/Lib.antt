pub mod Lanes
pub mod Shown
pub mod Filmed
pub mod film_lemmas
