use Rattle.std.proofs.Common.{rules, ◌≡◌, ◌≢◌, ◌⊎◌, ℕ, ◌+◌, ◌<◌, ◌≤◌, length, sym, ap, ◌∙◌, subst, refl, ⊎_elim, arith}
use mathlib.Core.Logic.{dite}
use native.Mathlib.Decide.{ℕ_discrete}
use Rattle.conc_hands.specs.Gathering.{ends_in, IsSpentAt, number_at}
use Rattle.conc_hands.proofs.Gathers.{conserved_self, conserved_next, same_place}
use Rattle.conc_hands.proofs.gather.gather_deque.Goals as goal

pub loop-at-init : goal.loop-at-init
loop-at-init g c = (omega arith, refl, c.requires.ends, conserved_self _, λ q no. absurd (omega arith))

pub loop-at-preserved : goal.loop-at-preserved
loop-at-preserved g c = let inv = c.loop-at.invariant in let es = ends_in c.args.hands.now.items in let fs = ends_in c.loop-at.hands.items in let gs = ends_in c.gather_pass.new.hands.items in
    let next = c.gather_pass.ensures in let at = c.loop-at.at in (
      search rules,
      next.count ∙ inv.1,
      next.ends,
      conserved_next es fs gs inv.3 next.conserved,
      λ q small. dite (ℕ_discrete q at)
          (λ e. subst (λ (x : ℕ × ℕ). IsSpentAt gs x.0 x.1) (λ i. (sym e i, same_place es fs c.args.owner inv.3 i)) next.spent)
          (λ ne. next.conserved.spent_stays q _ (inv.4 q (omega (arith, ne)))),
    )
