pub mod Looking
pub mod tally
pub use Rattle.trace_checker.specs.Checking
pub use Rattle.trace_checker.specs.declared.player.player.Reached
pub use Rattle.trace_checker.specs.declared.verdict.RunFault
pub use Rattle.trace_checker.specs.declared.verdict.Verified
