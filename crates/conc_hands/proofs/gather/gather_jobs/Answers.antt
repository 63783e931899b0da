use Rattle.std.proofs.Common.{rules, ◌≡◌, ◌≢◌, ◌⊎◌, ℕ, ◌+◌, ◌<◌, ◌≤◌, length, sym, ap, ◌∙◌, subst, refl, ⊎_elim, arith}
use mathlib.Core.Logic.{dite}
use native.Mathlib.Decide.{ℕ_discrete}
use Rattle.conc_hands.specs.Gathering.{ends_in, IsSpentAt, number_at}
use Rattle.conc_hands.proofs.Gathers.{conserved_self, conserved_next, same_place, all_whole}
use Rattle.conc_hands.proofs.Places.{length_mapped}
use Rattle.conc_hands.proofs.gather.gather_jobs.Goals as goal

pub loop-at-init : goal.loop-at-init
loop-at-init g c = (omega arith, refl, c.requires.ends, conserved_self _, λ p q no. absurd (omega arith))

pub loop-at-preserved : goal.loop-at-preserved
loop-at-preserved g c = let inv = c.loop-at.invariant in let es = ends_in c.args.hands.now.items in let fs = ends_in c.loop-at.hands.items in let gs = ends_in c.gather_deque.new.hands.items in
    let next = c.gather_deque.ensures in let at = c.loop-at.at in (
      search rules,
      next.count ∙ inv.1,
      next.ends,
      conserved_next es fs gs inv.3 next.conserved,
      λ p q small few. dite (ℕ_discrete p at)
          (λ e. subst (IsSpentAt gs q) (same_place es fs at inv.3 ∙ ap (number_at es) (sym e)) (next.spent q (subst (λ n. q < n) (sym inv.1) few)))
          (λ ne. next.conserved.spent_stays q _ (inv.4 p q (omega (arith, ne)) few)),
    )

pub returns-clause-whole : goal.returns-clause-whole
returns-clause-whole g c = let inv = c.loop-at.invariant in let es = ends_in c.args.hands.now.items in let fs = ends_in c.loop-at.hands.items in
    let n : length fs ≡ length c.loop-at.hands.items = length_mapped _ c.loop-at.hands.items in
    all_whole c.args.doors.now.items es fs c.requires.dealt inv.2 inv.3
    (λ p q small few. inv.4 p q (let a = c.loop-at-test.false in let b = c.len.ensures in omega arith) (let a = inv.1 in omega arith))
