use Rattle.std.proofs.Common.{rules, ◌≡◌, ◌+◌, ◌-◌, ◌<◌, ◌≤◌, ℕ, List, Some, [], ◌∷◌, ◌++◌, length, length-append, slice_get, sym, ap, ◌∙◌, subst, refl, arith}
use Rattle.std.specs.Int.{IsNextPowerOfTwo}
use Rattle.conc_hands.specs.declared.queues.deque.Deque.{Deque}
use Rattle.conc_hands.specs.declared.queues.deque.Door.{Door}
use Rattle.conc_hands.specs.queues.QueueRule.{view_with}
use Rattle.conc_hands.specs.queues.Deques.{deque_view, deque_id, door_id}
use Rattle.conc_hands.specs.Dealing.{AreRows, AreDeques}
use Rattle.conc_hands.proofs.Deals.{rows_wider, deques_wider, last_door}
use Rattle.conc_hands.proofs.Places.{got_last}
use Rattle.conc_hands.proofs.deal.lay_out.Goals as goal

pub deal-requires-clause-rows : goal.deal-requires-clause-rows
deal-requires-clause-rows g c = let inv = c.loop-number.invariant in let doors = c.loop-number.doors.items in let door = c.in_ok-deque.door in let rows = c.loop-number.rows.items in
    let grown : c.push.new.self.items ≡ doors ++ door ∷ [] = search rules in
    let n : length doors ≡ length c.push.new.self.items - 1 = (let a = ap length grown ∙ length-append doors (door ∷ []) in omega arith) in
    subst (λ (x : List (Door _) × ℕ). AreRows x.0 c.args.code.now x.1 0 rows) (λ i. (sym grown i, n i))
    (rows_wider doors door c.args.code.now rows (subst (λ (k : ℕ). AreRows doors c.args.code.now k 0 rows) (sym inv.1) inv.4))

pub deal-requires-clause-deque : goal.deal-requires-clause-deque
deal-requires-clause-deque g c = let doors = c.loop-number.doors.items in let door = c.in_ok-deque.door in
    let grown : c.push.new.self.items ≡ doors ++ door ∷ [] = search rules in (
      c.in_ok-deque.ensures.deque,
      λ d e. sym c.in_ok-deque.ensures.door ∙ ap door_id (last_door doors c.push.new.self.items door d grown e),
    )

pub loop-number-preserved : goal.loop-number-preserved
loop-number-preserved g c = let inv = c.loop-number.invariant in let doors = c.loop-number.doors.items in let door = c.in_ok-deque.door in let ds = c.loop-number.deques.items in
    let code = c.args.code.now in let d = c.deal.new.deque in let dealt = c.in_ok-deal.ensures in
    let grown : c.push.new.self.items ≡ doors ++ door ∷ [] = search rules in
    let grown' : c.push-in-loop-number.new.self.items ≡ ds ++ d ∷ [] = search rules in
    let n : length c.push.new.self.items ≡ c.loop-number.number + 1 = (let a = ap length grown ∙ length-append doors (door ∷ []) in let b = inv.1 in omega arith) in
    let n' : length c.push-in-loop-number.new.self.items ≡ c.loop-number.number + 1 = (let a = ap length grown' ∙ length-append ds (d ∷ []) in let b = inv.2 in omega arith) in
    let owns : deque_id d ≡ door_id door = dealt.deque.0 ∙ sym c.in_ok-deque.ensures.door in
    let all = deques_wider doors door code c.args.caps ds d (inv.2 ∙ sym inv.1) inv.5 (
      dealt.deque.2 ∙ ap (λ (k : ℕ). view_with (Some code) (17 - k) [] []) inv.3,
      subst (λ (k : ℕ). IsNextPowerOfTwo 64 k) (sym dealt.deque.1) c.in_ok-deque.ensures.room,
      λ y e. owns ∙ ap door_id (let there : slice_get (doors ++ door ∷ []) (length doors) ≡ Some door = got_last doors door in let same : door ≡ y = cc (sym there ∙ e) in same),
    ) in (
      search rules,
      n,
      n',
      dealt.rows.0 ∙ inv.3,
      subst (λ (k : ℕ). AreRows c.push.new.self.items code k 0 c.deal.new.rows.items) n dealt.rows.1,
      subst (λ (x : List (Door _) × List (Deque _)). AreDeques x.0 code c.args.caps 0 x.1) (λ i. (sym grown i, sym grown' i)) all,
    )

pub returns : goal.returns
returns g c = let inv = c.loop-number.invariant in let done : c.loop-number.number ≡ c.args.caps = (let a = c.loop-number-test.false in let b = inv.0 in omega arith) in record {
  deque_count = inv.2 ∙ done;
  door_count = inv.1 ∙ done;
  row_count = inv.3;
  deques = inv.5;
  rows = subst (λ (k : ℕ). AreRows c.loop-number.doors.items c.args.code.now k 0 c.loop-number.rows.items) done inv.4;
}
