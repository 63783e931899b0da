use Rattle.term_graph.proofs.Growth.{grows_on}
use Rattle.number_states.proofs.Growth.{stock_on}
use Rattle.conc_outcomes.proofs.ends.go_round.Goals as goal
use Rattle.conc_outcomes.proofs.ends.go_round.Goals.{in-Some+in_ok-take+in_ok-settle, in_default}

pub loop-place-preserved : goal.loop-place-preserved
loop-place-preserved c =
    let before = c.loop-place.invariant in
    elim c.match-get.branch [
      | in-Some+in_ok-take+in_ok-settle w ↦
          let take = w.in_ok-take.ensures in
          let settle = w.in_ok-settle.ensures in
          rw (w.numbers-is, w.walk-is)
          (record {
            at = settle.at;
            history = grows_on _ _ _ (grows_on _ _ _ before.history take.history) settle.history;
            grows = stock_on _ _ _ (stock_on _ _ _ before.grows take.grows) settle.grows;
          })
      | in_default w ↦ rw (w.numbers-is, w.walk-is) before
    ]
