pub mod SlotRules
pub mod Standing
pub mod Stacks
pub mod Expressions
pub mod ExpressionLaws
pub mod FramingLaws
pub mod MovingLaws
pub mod StackLaws
