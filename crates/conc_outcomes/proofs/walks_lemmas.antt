pub mod OneMore
pub mod Walks
pub mod Judged
pub mod Tried
