use Rattle.std.proofs.Common.{sym, ◌∙◌}
use Rattle.conc_caps.proofs.Keeping.{no_ending}
use Rattle.conc_caps.proofs.caps.run_caps.Goals as goal

pub returns-clause-over : goal.returns-clause-over
returns-clause-over g c = λ some. absurd (no_ending _ c.ended.result c.args.desk.course.end (sym c.is_some.ensures ∙ c.if-is_some.false) c.ended.ensures some)
