use Rattle.std.proofs.Common.{◌-◌, length}
use Rattle.trace_text.proofs.ScriptLines.{IsSearched}
use Rattle.trace_text.proofs.document.split.Given as goal

abbrev pub invariant-loop-rest : goal.invariant-loop-rest
invariant-loop-rest l = IsSearched l.document l.begin

abbrev pub decreases-loop-rest : goal.decreases-loop-rest
decreases-loop-rest l = length l.document - l.begin
