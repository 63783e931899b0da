use Rattle.std.proofs.Common.{◌≡◌, ℕ, ◌+◌, ◌<◌, List, [], ◌∷◌, length, map, set, slice_get, Some, MatchOption, sym, ap, ◌∙◌, subst, refl}
use Rattle.std.proofs.lemmas.Option.{slice_get_read}
use Rattle.conc_hands.specs.queues.Deques.{deque_view}
use Rattle.conc_hands.specs.declared.hand.Hand.{Hand}
use Rattle.conc_hands.specs.declared.hand.JobsEnd.{JobsEnd}
use Rattle.conc_hands.specs.Gathering.{ends_in, AreWhole, AreEmptyBelow, SameTotals, TotalsTaken, IsEmptyAt}
use Rattle.conc_hands.proofs.Places.{mapped_set, got_mapped}
use Rattle.conc_hands.proofs.Leftovers.{whole_after, below_after, popped_from, shares_kept}
use Rattle.conc_hands.proofs.left_calls.pop_at.Goals as goal

pub returns-clause-whole : goal.returns-clause-whole
returns-clause-whole g c =
    let xs = c.args.hands.now.items in let es = ends_in xs in let at = c.args.at in let x = c.index_mut.result.now in
    let x_at : slice_get xs at ≡ Some x = slice_get_read xs (length xs) at x refl c.requires.at c.index_mut.ensures.value in
    let e_at = got_mapped (λ (h : Hand _ _). h.jobs) xs at x x_at in
    let f : JobsEnd _ = record { number = x.jobs.number; deque = c.pop.new.self; passes = x.jobs.passes } in
    let ends_ys = mapped_set (λ (h : Hand _ _). h.jobs) xs at record { jobs = f; post = x.post; pen = x.pen } in
    subst AreWhole (sym ends_ys) (whole_after es at x.jobs f e_at (refl, shares_kept g.J.Ticketed.number c.pop.result _ _ _ _ c.pop.ensures.job) c.requires.whole)

pub returns-clause-below : goal.returns-clause-below
returns-clause-below g c =
    let xs = c.args.hands.now.items in let es = ends_in xs in let at = c.args.at in let x = c.index_mut.result.now in
    let x_at : slice_get xs at ≡ Some x = slice_get_read xs (length xs) at x refl c.requires.at c.index_mut.ensures.value in
    let e_at = got_mapped (λ (h : Hand _ _). h.jobs) xs at x x_at in
    let f : JobsEnd _ = record { number = x.jobs.number; deque = c.pop.new.self; passes = x.jobs.passes } in
    let ends_ys = mapped_set (λ (h : Hand _ _). h.jobs) xs at record { jobs = f; post = x.post; pen = x.pen } in
    λ below. subst (AreEmptyBelow at) (sym ends_ys) (below_after es at f below)

pub returns-clause-job : goal.returns-clause-job
returns-clause-job g c =
    let xs = c.args.hands.now.items in let es = ends_in xs in let at = c.args.at in let x = c.index_mut.result.now in
    let x_at : slice_get xs at ≡ Some x = slice_get_read xs (length xs) at x refl c.requires.at c.index_mut.ensures.value in
    let e_at = got_mapped (λ (h : Hand _ _). h.jobs) xs at x x_at in
    let f : JobsEnd _ = record { number = x.jobs.number; deque = c.pop.new.self; passes = x.jobs.passes } in
    let ends_ys = mapped_set (λ (h : Hand _ _). h.jobs) xs at record { jobs = f; post = x.post; pen = x.pen } in
    subst (λ (l : List (JobsEnd _)). MatchOption c.pop.result (SameTotals es l × IsEmptyAt at l) (λ y. TotalsTaken (g.J.Ticketed.number y) es l)) (sym ends_ys)
    (popped_from g.J.Ticketed.number c.pop.result _ _ es at x.jobs f e_at c.requires.whole refl c.pop.ensures.job c.pop.ensures.alone)
