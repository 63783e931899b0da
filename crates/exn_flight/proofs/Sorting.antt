-- Sleepers put in order one after the other: the order in which they are put doesn't matter.
use Rattle.std.proofs.Common.{◌≡◌, ℕ, Bool, true, false, cond, List, [], ◌∷◌, ◌++◌, refl, ap, sym, ◌∙◌, arith}
use Rattle.rules_waiting.specs.Waiting.{Sleeper, Sleeping, Waiting, blocks, sleepers_of, sleeper_before, sleeper_added, sorted_sleepers}
use Rattle.exn_flight.proofs.OneList.{sleepers_block}
use Rattle.exn_flight.proofs.Before.{same_due, same_thread}

both : (a b : Sleeper) → sleeper_before a b ≡ true → sleeper_before b a ≡ true → ⊥
both a b p q = grind arith

same_sleeper : (a b : Sleeper) → sleeper_before a b ≡ false → sleeper_before b a ≡ false → a ≡ b
same_sleeper a b p q =
    ap (λ n. record { thread = n; due = a.due }) (same_thread a b p q) ∙ ap (λ n. record { thread = b.thread; due = n }) (same_due a b p q)

between : (r a b : Sleeper) → sleeper_before r a ≡ true → sleeper_before r b ≡ false → sleeper_before b a ≡ true
between r a b p q = grind arith

either_way : (a b : Sleeper) (x y : Bool) (rs : List Sleeper) → sleeper_before b a ≡ x → sleeper_before a b ≡ y → cond x (b ∷ a ∷ rs) (a ∷ b ∷ rs) ≡ cond y (a ∷ b ∷ rs) (b ∷ a ∷ rs)
either_way a b true true rs p q = absurd (both a b q p)
either_way a b true false rs p q = refl
either_way a b false true rs p q = refl
either_way a b false false rs p q = let e = same_sleeper a b q p in ap (λ x. x ∷ b ∷ rs) e ∙ ap (λ x. b ∷ x ∷ rs) (sym e)

added : (x : Bool) (s r : Sleeper) (rs : List Sleeper) → sleeper_before r s ≡ x → sleeper_added s (r ∷ rs) ≡ cond x (r ∷ sleeper_added s rs) (s ∷ r ∷ rs)
added x s r rs e = ap (λ b. cond b (r ∷ sleeper_added s rs) (s ∷ r ∷ rs)) e

two_added : (a b r : Sleeper) (rs : List Sleeper) (x y : Bool) → sleeper_before r a ≡ x → sleeper_before r b ≡ y → sleeper_added a (sleeper_added b rs) ≡ sleeper_added b (sleeper_added a rs) → sleeper_added a (sleeper_added b (r ∷ rs)) ≡ sleeper_added b (sleeper_added a (r ∷ rs))
two_added a b r rs true true p q ih =
    ap (sleeper_added a) (added true b r rs q) ∙ added true a r (sleeper_added b rs) p ∙ ap (λ xs. r ∷ xs) ih ∙ sym (added true b r (sleeper_added a rs) q) ∙ ap (sleeper_added b) (sym (added true a r rs p))
two_added a b r rs true false p q ih =
    ap (sleeper_added a) (added false b r rs q) ∙ added true a b (r ∷ rs) (between r a b p q) ∙ ap (λ xs. b ∷ xs) (added true a r rs p) ∙ sym (added false b r (sleeper_added a rs) q) ∙ ap (sleeper_added b) (sym (added true a r rs p))
two_added a b r rs false true p q ih =
    ap (sleeper_added a) (added true b r rs q) ∙ added false a r (sleeper_added b rs) p ∙ ap (λ xs. a ∷ xs) (sym (added true b r rs q)) ∙ sym (added true b a (r ∷ rs) (between r b a q p)) ∙ ap (sleeper_added b) (sym (added false a r rs p))
two_added a b r rs false false p q ih =
    ap (sleeper_added a) (added false b r rs q) ∙ ap (λ xs. cond (sleeper_before b a) (b ∷ xs) (a ∷ b ∷ r ∷ rs)) (added false a r rs p) ∙ either_way a b (sleeper_before b a) (sleeper_before a b) (r ∷ rs) refl refl ∙ ap (λ xs. cond (sleeper_before a b) (a ∷ xs) (b ∷ a ∷ r ∷ rs)) (sym (added false b r rs q)) ∙ ap (sleeper_added b) (sym (added false a r rs p))

pub added_twice : (a b : Sleeper) (rs : List Sleeper) → sleeper_added a (sleeper_added b rs) ≡ sleeper_added b (sleeper_added a rs)
added_twice a b [] = either_way a b (sleeper_before b a) (sleeper_before a b) [] refl refl
added_twice a b (r ∷ rs) = two_added a b r rs (sleeper_before r a) (sleeper_before r b) refl refl (added_twice a b rs)

pub sorted_append : (ss : List Sleeper) (s : Sleeper) → sorted_sleepers (ss ++ s ∷ []) ≡ sleeper_added s (sorted_sleepers ss)
sorted_append [] s = refl
sorted_append (x ∷ xs) s = ap (sleeper_added x) (sorted_append xs s) ∙ added_twice x s (sorted_sleepers xs)

pub sleeps_in_order : {V : Type 0} (t due : ℕ) (ws : List (Waiting V)) → sorted_sleepers (sleepers_of (blocks t (Sleeping due) ws)) ≡ sleeper_added (record { thread = t; due = due }) (sorted_sleepers (sleepers_of ws))
sleeps_in_order t due ws = ap sorted_sleepers (sleepers_block t (Sleeping due) ws) ∙ sorted_append (sleepers_of ws) (record { thread = t; due = due })
