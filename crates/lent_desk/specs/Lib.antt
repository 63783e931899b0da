pub use Rattle.conc_world.specs.Runs
pub use Rattle.run_course.specs.Told
pub use Rattle.run_course.specs.Endings
pub use Rattle.run_course.specs.clocked.Clocks
pub use Rattle.run_course.specs.declared.ends.RunEnd
