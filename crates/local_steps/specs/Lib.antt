pub mod Frames
pub mod InPlace
pub mod Machine
pub mod environments
pub mod equality
