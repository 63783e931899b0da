pub mod AcceptedBodies
pub mod CoreSorts
pub mod WellActions
pub mod EnvironmentLaws
pub mod ExpressionLaws
