use Rattle.std.proofs.Common.{[], ◌∙◌}
use Rattle.std.proofs.Math.Logic.{∥∥₁_map}
use Rattle.run_course.proofs.history_lemmas.Begun.{live_begins}
use Rattle.trace_checker.proofs.player.player.Player.begin.Goals as goal

pub invariant_of-result : goal.invariant_of-result
invariant_of-result c =
    let b = c.of.result.value in
    let w = c.in_ok-world.world in
    record { live = ∥∥₁_map (live_begins b w (c.in_ok-world.ensures b (c.of.ensures ∙ c.deref-body.ensures))) (λ l. ([], l)) }

pub returns : goal.returns
returns c =
    let b = c.of.result.value in
    let w = c.in_ok-world.world in
    let of = c.of.ensures ∙ c.deref-body.ensures in
    (of, live_begins b w (c.in_ok-world.ensures b of))
