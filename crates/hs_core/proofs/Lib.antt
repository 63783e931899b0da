pub mod ActArena
pub mod Afterwards
pub mod Made
pub mod Numbering
pub mod Openings
pub mod Placings
pub mod Steps
pub mod Waits
