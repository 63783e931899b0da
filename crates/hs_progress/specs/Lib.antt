pub mod CoreTyping
pub mod TypedStates
pub mod GoingOn
pub mod Evaluated
pub mod EvaluatedLaws
pub mod GoingLaws
