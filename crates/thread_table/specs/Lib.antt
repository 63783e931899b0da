pub mod Table
pub mod Listing
pub mod Rooms
pub mod Kinds
pub mod Moving
