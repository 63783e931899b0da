pub mod Timings
pub mod Outcomes
pub mod BoundLaws
pub mod timing
pub mod reduction
pub mod offers
