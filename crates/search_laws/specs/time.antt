pub mod WithoutTime
pub mod NextLaws
