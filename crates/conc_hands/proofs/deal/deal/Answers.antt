use Rattle.std.proofs.Common.{rules, ◌≡◌, ◌⊎◌, ◌+◌, ◌-◌, ◌<◌, ◌≤◌, ℕ, true, false, Some, [], ◌∷◌, ◌++◌, length, length-set, set, slice_get, ◌==◌, sym, ap, ◌∙◌, subst, refl, arith}
use Rattle.std.proofs.lemmas.Option.{slice_get_read}
use Rattle.conc_hands.specs.declared.queues.view.QueueView.{QueueView}
use Rattle.conc_hands.specs.declared.queues.deque.Door.{Door}
use Rattle.conc_hands.specs.queues.QueueRule.{view_with}
use Rattle.conc_hands.specs.queues.Deques.{deque_view, deque_id, door_id, pass_view, IsDequePass}
use Rattle.conc_hands.specs.Ends.{share_if}
use Rattle.conc_hands.specs.Dealing.{AreRows, AreDealt, dealt_if}
use Rattle.conc_hands.proofs.Deals.{starts_dealt, ends_dealt, deals_one, shares_next}
use Rattle.conc_hands.proofs.deal.deal.Goals as goal

pub loop-at-init : goal.loop-at-init
loop-at-init g c = (
  omega arith,
  refl,
  starts_dealt c.args.doors.now.items c.args.code.now (c.len-own.result - 1) c.args.rows.now.items
      (subst (λ (n : ℕ). AreRows c.args.doors.now.items c.args.code.now n 0 c.args.rows.now.items) (search rules) c.requires.rows),
  refl,
  refl,
  (16, c.requires.deque.0, (λ _. refl), λ no. absurd (omega arith)),
)

pub loop-at-preserved : goal.loop-at-preserved
loop-at-preserved g c = let inv = c.loop-at.invariant in let at = c.loop-at.at in let rows = c.loop-at.rows.items in let p = c.pass_of-pass.result in
    let doors = c.args.doors.now.items in let own = c.len-own.result - 1 in let v = inv.5.1 in
    let few : own < length doors = search rules in
    let small : at < length rows = search rules in
    let row = c.index_mut.result.now in let door = c.index.result.now in
    let here : slice_get rows at ≡ Some row = slice_get_read rows (length rows) at row refl small c.index_mut.ensures.value in
    let there : slice_get doors own ≡ Some door = slice_get_read doors (length doors) own door refl few c.index.ensures in
    let grown : c.push.new.self.items ≡ row.items ++ p ∷ [] = search rules in
    let mine : deque_id c.loop-at.deque ≡ door_id door = inv.3 ∙ c.requires.deque.1 door (search rules) in
    let next = shares_next own at inv.5.0 (let a = c.requires.few in omega arith) (let a = c.requires.few in let b = inv.1 in omega arith) inv.5.2 inv.5.3 in (
      search rules,
      length-set rows at c.push.new.self ∙ inv.1,
      deals_one doors c.args.code.now own at rows row c.push.new.self p inv.2 here grown
          (c.pass_of-pass.ensures.pass ∙ ap (λ (u : QueueView). dealt_if u.code (at == own)) v)
          (λ d e. let same : door ≡ d = cc (there, e) in subst (λ (x : Door _). IsDequePass (door_id x) p) same (c.pass_of-pass.ensures.of mine)),
      c.pass_of-pass.ensures.same.0 ∙ inv.3,
      c.pass_of-pass.ensures.same.1 ∙ inv.4,
      (
        inv.5.0 - share_if (at == own),
        c.pass_of-pass.ensures.deque ∙ ap (λ (u : QueueView). view_with u.code (u.shares - share_if (at == own)) u.put u.taken) v,
        next.0,
        next.1,
      ),
    )

pub returns-clause-rows : goal.returns-clause-rows
returns-clause-rows g c = let own = c.len-own.result - 1 in (
  c.loop-at.invariant.1,
  subst (λ (n : ℕ). AreRows c.args.doors.now.items c.args.code.now n 0 c.loop-at.rows.items) (search rules) (ends_dealt c.args.doors.now.items c.args.code.now own c.loop-at.at c.loop-at.rows.items (search rules) c.loop-at.invariant.2),
)
