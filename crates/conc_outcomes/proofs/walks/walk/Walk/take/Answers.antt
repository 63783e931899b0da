use Rattle.std.proofs.Common.{subst}
use Rattle.number_states.specs.Stocks.{HasGrown}
use Rattle.number_states.proofs.Growth.{stock_on}
use Rattle.conc_outcomes.proofs.walks.walk.Walk.take.Goals as goal
use Rattle.conc_outcomes.proofs.walks.walk.Walk.take.Goals.{in-Some+in_ok-enter, in_default}

pub returns-clause-grows : goal.returns-clause-grows
returns-clause-grows c =
    let last = c.enter-2.ensures.grows in
    elim c.match-tick_before.branch [
      | in-Some+in_ok-enter w ↦ stock_on c.args.numbers.now w.enter.new.numbers c.enter-2.new.numbers w.enter.ensures.grows (subst (λ g. HasGrown g c.enter-2.new.numbers) w.numbers-is last)
      | in_default w ↦ subst (λ g. HasGrown g c.enter-2.new.numbers) w.numbers-is last
    ]
