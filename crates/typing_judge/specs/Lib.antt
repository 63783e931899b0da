pub mod Judging
pub mod JudgingActions
pub mod JudgingScripts
pub mod Least
