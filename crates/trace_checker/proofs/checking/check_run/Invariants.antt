use Rattle.std.proofs.Common.{length, List}
use Rattle.hs_rules.specs.declared.entry.Entry.{Entry}
use Rattle.rules_code.specs.Codes.{body_of}
use Rattle.trace_checker.specs.Walking.{WalkedTo}
use Rattle.trace_checker.proofs.checking.check_run.Given as goal

abbrev pub invariant-loop-walk : goal.invariant-loop-walk
invariant-loop-walk l = (es : List Entry) × WalkedTo (body_of l.code) l.text es l.walk

abbrev pub decreases-loop-walk : goal.decreases-loop-walk
decreases-loop-walk l = length l.walk.lines.rest
