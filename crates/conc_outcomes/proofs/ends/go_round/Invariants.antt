use Rattle.number_tables.specs.Tables.{Grows}
use Rattle.number_states.specs.Stocks.{HasGrown}
use Rattle.conc_outcomes.specs.walks.Entering.{IsAt}
use Rattle.conc_outcomes.proofs.ends.go_round.Given as goal

abbrev pub invariant-loop-place : goal.invariant-loop-place
invariant-loop-place l = record { at : IsAt l.fn.code.bounds.now l.fn.code.body.now l.numbers l.walk; history : Grows l.fn.walk.history.list l.walk.history.list; grows : HasGrown l.fn.numbers l.numbers }
