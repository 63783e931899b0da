use Rattle.std.proofs.Common.{◌≡◌, ◌<◌, ◌+◌, ◌==◌, ℕ, suc, List, length, Some, if◌then◌else◌, drop, get_or, ap, sym, ◌∙◌, drop-cons, arith, add-one}
use Rattle.std.proofs.lemmas.List.{drop_all}
use Rattle.hs_io.specs.Outside.{stop_of}
use Rattle.hs_io.proofs.mem_sink.stop_at.Goals as goal

-- the pair at a place decides, or those behind it do
stop_of-drop : (pairs : List (ℕ × ℕ)) (i call : ℕ) (d : ℕ × ℕ) → i < length pairs
    → stop_of (drop i pairs) call ≡ (if (get_or pairs i d).0 == call then Some (get_or pairs i d).1 else stop_of (drop (suc i) pairs) call)
stop_of-drop pairs i call d within = ap (λ ps. stop_of ps call) (drop-cons pairs i d within)

listed_here : (pairs : List (ℕ × ℕ)) (i call : ℕ) (d : ℕ × ℕ) → i < length pairs → (get_or pairs i d).0 ≡ call
    → stop_of (drop i pairs) call ≡ Some (get_or pairs i d).1
listed_here pairs i call d within same = grind (arith, stop_of-drop pairs i call d within, same)

listed_later : (pairs : List (ℕ × ℕ)) (i call : ℕ) (d : ℕ × ℕ) → i < length pairs → ((get_or pairs i d).0 ≡ call → ⊥)
    → stop_of (drop i pairs) call ≡ stop_of (drop (i + 1) pairs) call
listed_later pairs i call d within other = grind (arith, stop_of-drop pairs i call d within, other, add-one)

pub returns-then-from-call : goal.returns-then-from-call
returns-then-from-call c =
    sym (c.loop-pair.invariant ∙ listed_here c.args.fails.now c.loop-pair.pair-index c.args.call (0, 0) c.loop-pair-test.true (sym c.from.ensures ∙ c.if-from-call.true))

pub loop-pair-preserved : goal.loop-pair-preserved
loop-pair-preserved c =
    c.loop-pair.invariant ∙ listed_later c.args.fails.now c.loop-pair.pair-index c.args.call (0, 0) c.loop-pair-test.true (λ same. c.if-from-call.false (c.from.ensures ∙ same))

pub returns : goal.returns
returns c = sym (c.loop-pair.invariant ∙ ap (λ ps. stop_of ps c.args.call) (drop_all c.loop-pair.pair-index c.args.fails.now c.loop-pair-test.false))
