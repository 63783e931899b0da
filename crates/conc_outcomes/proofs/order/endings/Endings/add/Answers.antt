use Rattle.std.proofs.Common.{List, ◌≡◌, subst}
use Rattle.std.specs.Prelude.{◌⊎◌}
use Rattle.conc_outcomes.specs.declared.order.ended.Ended.{Ended}
use Rattle.conc_outcomes.specs.order.Rising.{Holds}
use Rattle.conc_outcomes.proofs.order.endings.Endings.add.Goals as goal

pub returns-in-Some-clause-only : goal.returns-in-Some-clause-only
returns-in-Some-clause-only c e h = subst (λ (xs : List Ended). Holds xs e ⊎ (e ≡ c.args.ended)) c.self.view_is (c.put.ensures.only e h)
