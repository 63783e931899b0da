pub use Rattle.lent_desk.specs.Runs
pub use Rattle.lent_desk.specs.Told
pub use Rattle.lent_desk.specs.Endings
pub use Rattle.lent_desk.specs.Clocks
pub use Rattle.lent_desk.specs.RunEnd
