use Rattle.local_steps.specs.Machine.{funs_of}
use Rattle.number_states.specs.Stocks.{HasGrown}
use Rattle.number_states.specs.States.{slots}
use Rattle.conc_outcomes.proofs.walks_lemmas.Tried.{NoneBelow}
use Rattle.conc_outcomes.proofs.walks.still.is_still.Given as goal

abbrev pub invariant-loop-entry : goal.invariant-loop-entry
invariant-loop-entry l = record {
  none : NoneBelow (funs_of l.body) (slots l.fn.numbers l.body l.state) l.entry-items l.entry-index;
  grows : HasGrown l.fn.numbers l.numbers;
}
