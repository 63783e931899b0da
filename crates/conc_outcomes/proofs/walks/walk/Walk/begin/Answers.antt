use Rattle.std.proofs.Common.{true, false}
use Rattle.conc_outcomes.proofs.walks_lemmas.Walks.{begun_at}
use Rattle.conc_outcomes.proofs.walks.walk.Walk.begin.Goals as goal

-- src/walk.rt
pub returns-clause-at : goal.returns-clause-at
returns-clause-at c = λ bounds.
    let e = c.in_ok-state.ensures in
    begun_at bounds c.args.body.now c.first.new.numbers (record { state = c.in_ok-state.state; history = c.new.result; ticked = false; unread = true }) e.there (e.is c.args.body.now) e.output e.errors c.new.ensures
