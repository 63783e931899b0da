pub mod Knowing
pub mod Opening
pub mod Making
pub mod Desks
pub mod Closing
pub mod Turning
pub mod Refusing
pub mod tickets_lemmas
