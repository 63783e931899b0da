use Rattle.std.proofs.Common.{rules, ◌≡◌, ◌+◌, ◌-◌, ◌<◌, ◌≤◌, ℕ, List, Some, [], ◌∷◌, ◌++◌, length, length-append, remove, slice_get, sym, ap, ◌∙◌, subst, refl, arith}
use Rattle.std.proofs.lemmas.Option.{slice_get_read}
use Rattle.conc_hands.specs.declared.hand.Hand.{Hand}
use Rattle.conc_hands.specs.Dealing.{IsDequeOf, IsRowOf, AreRows, AreDeques, AreFresh}
use Rattle.conc_hands.specs.Hands.{hands_code}
use Rattle.conc_hands.proofs.Deals.{deques_less, rows_less, first_deque, first_row, fresh_more}
use Rattle.conc_hands.proofs.hands.Hands.hand_out.Goals as goal

pub hand_of-hand-requires-clause-jobs : goal.hand_of-hand-requires-clause-jobs
hand_of-hand-requires-clause-jobs g c = let inv = c.loop-number.invariant in let doors = c.args.self.now.doors.items in let code = hands_code c.args.self.now in
    let ds = c.loop-number.deques.items in let rows = c.loop-number.rows.items in let n = c.loop-number.number in
    let d : slice_get ds 0 ≡ Some c.remove.result = slice_get_read ds (length ds) 0 c.remove.result refl (let a = inv.3 in let b = inv.0 in omega arith) c.remove.ensures.value in
    let r : slice_get rows 0 ≡ Some c.remove-in-loop-number.result = slice_get_read rows (length rows) 0 c.remove-in-loop-number.result refl (let a = inv.5 in let b = inv.0 in omega arith) c.remove-in-loop-number.ensures.value in
    subst (λ (caps : ℕ). IsDequeOf doors code caps n c.remove.result × IsRowOf doors code caps n c.remove-in-loop-number.result) (sym c.requires.caps.2)
    (first_deque doors code c.args.caps n ds c.remove.result inv.4 d, first_row doors code c.args.caps n rows c.remove-in-loop-number.result inv.6 r)

pub hand_of-last-requires-clause-jobs : goal.hand_of-last-requires-clause-jobs
hand_of-last-requires-clause-jobs g c = let inv = c.loop-number.invariant in let doors = c.args.self.now.doors.items in let code = hands_code c.args.self.now in
    let ds = c.loop-number.deques.items in let rows = c.loop-number.rows.items in let n = c.loop-number.number in
    let d : slice_get ds 0 ≡ Some c.remove-2.result = slice_get_read ds (length ds) 0 c.remove-2.result refl (let a = inv.3 in let b = inv.0 in omega arith) c.remove-2.ensures.value in
    let r : slice_get rows 0 ≡ Some c.remove-3.result = slice_get_read rows (length rows) 0 c.remove-3.result refl (let a = inv.5 in let b = inv.0 in omega arith) c.remove-3.ensures.value in
    subst (λ (caps : ℕ). IsDequeOf doors code caps n c.remove-2.result × IsRowOf doors code caps n c.remove-3.result) (sym c.requires.caps.2)
    (first_deque doors code c.args.caps n ds c.remove-2.result inv.4 d, first_row doors code c.args.caps n rows c.remove-3.result inv.6 r)

pub loop-number-preserved : goal.loop-number-preserved
loop-number-preserved g c = let inv = c.loop-number.invariant in let doors = c.args.self.now.doors.items in let code = hands_code c.args.self.now in
    let ds = c.loop-number.deques.items in let rows = c.loop-number.rows.items in let n = c.loop-number.number in let x = c.hand_of-hand.result in let hs = c.loop-number.hands.items in
    let grown : c.push.new.self.items ≡ hs ++ x ∷ [] = search rules in
    let made = c.hand_of-hand.ensures in (
      c.loop-number-test.true,
      ap length grown ∙ (length-append hs (x ∷ []) ∙ ap (λ k. k + 1) inv.1),
      subst (AreFresh c.args.self.now) (sym grown) (fresh_more c.args.self.now hs x inv.2 made.hand (made.fresh.0 ∙ sym inv.1) made.fresh.1),
      search rules,
      subst (AreDeques doors code c.args.caps (n + 1)) (sym c.remove.ensures.items) (deques_less doors code c.args.caps n ds inv.4),
      search rules,
      subst (AreRows doors code c.args.caps (n + 1)) (sym c.remove-in-loop-number.ensures.items) (rows_less doors code c.args.caps n rows inv.6),
      search rules,
      search rules,
      search rules,
      search rules,
    )

pub returns : goal.returns
returns g c = let inv = c.loop-number.invariant in let x = c.hand_of-last.result in let hs = c.loop-number.hands.items in
    let grown : c.push-2.new.self.items ≡ hs ++ x ∷ [] = search rules in
    let made = c.hand_of-last.ensures in (
      ap length grown ∙ (length-append hs (x ∷ []) ∙ (let a = inv.1 in let b = inv.0 in let d = c.loop-number-test.false in omega arith)),
      subst (AreFresh c.args.self.now) (sym grown) (fresh_more c.args.self.now hs x inv.2 made.hand (made.fresh.0 ∙ sym inv.1) made.fresh.1),
    )
