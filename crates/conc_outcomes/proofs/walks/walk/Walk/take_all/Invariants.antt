use Rattle.number_tables.specs.Tables.{Grows}
use Rattle.number_states.specs.Stocks.{HasGrown}
use Rattle.conc_outcomes.specs.walks.Entering.{IsAt}
use Rattle.conc_outcomes.proofs.walks.walk.Walk.take_all.Given as goal

abbrev pub invariant-loop-entry : goal.invariant-loop-entry
invariant-loop-entry l = record {
  at : IsAt l.bounds l.body l.numbers l.self;
  history : Grows l.fn.self.history.list l.self.history.list;
  grows : HasGrown l.fn.numbers l.numbers;
}
