use Rattle.std.proofs.Common.{◌≡◌}
use Rattle.rules_code.specs.Codes.{body_of}
use Rattle.stack_rows.proofs.play.slices.Given as goal

abbrev pub invariant-loop : goal.invariant-loop
invariant-loop l = l.thread.of.value ≡ body_of l.code
