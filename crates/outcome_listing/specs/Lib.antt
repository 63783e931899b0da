pub mod Finals
pub mod Listing
