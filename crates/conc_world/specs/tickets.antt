pub mod Jobs
pub mod Out
