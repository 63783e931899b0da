use Rattle.std.proofs.Common.{rules, ◌≡◌, ℕ, suc, ◌+◌, ◌<◌, ◌≤◌, List, [], ◌∷◌, ◌++◌, length, length-set, map, set, take, drop, slice_get, Some, append-nil, sym, ap, ◌∙◌, subst, refl, arith}
use Rattle.std.proofs.lemmas.Option.{slice_get_read}
use Rattle.conc_hands.specs.declared.queues.view.QueueView.{QueueView}
use Rattle.conc_hands.specs.queues.Inboxes.{inbox_view}
use Rattle.conc_hands.specs.flags.FlagsRule.{pen_view}
use Rattle.conc_hands.specs.declared.flags.view.PenView.{PenView}
use Rattle.conc_hands.specs.declared.hand.Hand.{Hand}
use Rattle.conc_hands.specs.Hands.{raised_by, read_by, handed_in_by, collected_by}
use Rattle.conc_hands.specs.Lists.{all_raised, all_read, all_handed_in, all_collected}
use Rattle.conc_hands.specs.Gathering.{shares_over}
use Rattle.conc_hands.proofs.Places.{mapped_back, got_dropped, dropped_set, dropped_next, taken_whole}
use Rattle.conc_hands.proofs.Rights.{joined_more, shares_more}
use Rattle.conc_hands.proofs.gather.gather_rights.Goals as goal

pub first_rights-post-requires : goal.first_rights-post-requires
first_rights-post-requires g c = let xs = c.args.hands.now.items in let x = c.index_mut.result.now in
    c.requires.rights 0 x (slice_get_read xs (length xs) 0 x refl c.requires.some c.index_mut.ensures.value)

pub loop-at-init : goal.loop-at-init
loop-at-init g c = let xs = c.args.hands.now.items in let x = c.index_mut.result.now in let y = c.first_rights-post.new.hand in let r = c.first_rights-post.ensures in
    let at : slice_get xs 0 ≡ Some x = slice_get_read xs (length xs) 0 x refl c.requires.some c.index_mut.ensures.value in
    let view = r.post.1 in (
      omega arith,
      subst (λ n. 1 ≤ n) (sym (length-set xs 0 y)) (let a = c.requires.some in omega arith),
      length-set xs 0 y,
      mapped_back (λ (h : Hand _ _). h.jobs) xs 0 x y at r.same,
      dropped_set xs 0 y,
      r.post.0,
      (let a = (c.requires.rights 0 x at).0.1 in let b = ap (λ (v : QueueView). v.shares) view in omega arith),
      (let a = ap (λ (v : QueueView). v.shares) view in let b = shares_more xs 0 x at in omega arith),
      ap (λ (v : QueueView). v.put) view ∙ sym (joined_more handed_in_by xs 0 x at),
      ap (λ (v : QueueView). v.taken) view ∙ sym (joined_more collected_by xs 0 x at),
      r.pen.0,
      r.pen.1 ∙ (λ i. pen_view 1 (sym (joined_more raised_by xs 0 x at) i) (sym (joined_more read_by xs 0 x at) i)),
    )

pub more_rights-requires-clause-rights : goal.more_rights-requires-clause-rights
more_rights-requires-clause-rights g c = let inv = c.loop-at.invariant in let xs = c.args.hands.now.items in let ys = c.loop-at.hands.items in let at = c.loop-at.at in let x = c.index_mut-in-loop-at.result.now in
    let small : at < length ys = search rules in
    let y_at : slice_get ys at ≡ Some x = slice_get_read ys (length ys) at x refl small c.index_mut-in-loop-at.ensures.value in
    c.requires.rights at x (sym (got_dropped ys xs at inv.4) ∙ y_at)

pub loop-at-preserved : goal.loop-at-preserved
loop-at-preserved g c = let inv = c.loop-at.invariant in let xs = c.args.hands.now.items in let ys = c.loop-at.hands.items in let at = c.loop-at.at in let x = c.index_mut-in-loop-at.result.now in
    let small : at < length ys = search rules in
    let y_at : slice_get ys at ≡ Some x = slice_get_read ys (length ys) at x refl small c.index_mut-in-loop-at.ensures.value in
    let x_at : slice_get xs at ≡ Some x = sym (got_dropped ys xs at inv.4) ∙ y_at in
    let r = c.more_rights.ensures in let y = c.more_rights.new.hand in let view = r.post.1 in let pen = inv.11 in
    let one : suc at ≡ at + 1 = omega arith in (
      omega arith,
      subst (λ n. at + 1 ≤ n) (sym (length-set ys at y)) (omega arith),
      length-set ys at y ∙ inv.2,
      mapped_back (λ (h : Hand _ _). h.jobs) ys at x y y_at r.same ∙ inv.3,
      subst (λ n. drop n (set ys at y) ≡ drop n xs) one (dropped_set ys at y ∙ dropped_next ys xs at inv.4),
      r.post.0,
      (let a = inv.6 in let b = ap (λ (v : QueueView). v.shares) view in omega arith),
      (let a = inv.7 in let b = ap (λ (v : QueueView). v.shares) view in let d = shares_more xs at x x_at in omega arith),
      ap (λ (v : QueueView). v.put) view ∙ (ap (λ zs. zs ++ handed_in_by x) inv.8 ∙ sym (joined_more handed_in_by xs at x x_at)),
      ap (λ (v : QueueView). v.taken) view ∙ (ap (λ zs. zs ++ collected_by x) inv.9 ∙ sym (joined_more collected_by xs at x x_at)),
      r.pen.0,
      r.pen.1 ∙ (ap (λ (v : PenView). pen_view (v.shares + 1) (v.raised ++ raised_by x) (v.read ++ read_by x)) pen ∙ (λ i. pen_view (at + 1) (sym (joined_more raised_by xs at x x_at) i) (sym (joined_more read_by xs at x x_at) i))),
    )

pub returns-clause-post : goal.returns-clause-post
returns-clause-post g c = let inv = c.loop-at.invariant in let xs = c.args.hands.now.items in
    let all : take c.loop-at.at xs ≡ xs = taken_whole xs c.loop-at.at (search rules) in (
      inv.5,
      inv.7 ∙ ap shares_over all,
      inv.8 ∙ ap all_handed_in all,
      inv.9 ∙ ap all_collected all,
    )

pub returns-clause-pen : goal.returns-clause-pen
returns-clause-pen g c = let inv = c.loop-at.invariant in let xs = c.args.hands.now.items in
    let all : take c.loop-at.at xs ≡ xs = taken_whole xs c.loop-at.at (search rules) in
    let n : c.loop-at.at ≡ length xs = search rules in
    (inv.10, inv.11 ∙ (λ i. pen_view (n i) (all_raised (all i)) (all_read (all i))))
