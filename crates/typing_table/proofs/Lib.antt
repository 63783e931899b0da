pub mod Counts
pub mod Equations
pub mod Interned
pub mod Swapped
pub mod Tables
