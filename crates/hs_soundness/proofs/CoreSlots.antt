-- An expression of a core action with slots means what it means with names.
use Rattle.std.proofs.Common.{◌≡◌, inl, inr, ℕ, zero, suc, ◌≤◌, pos, List, [], ◌∷◌, length, false, Option, Some, None, refl, ap, ◌∙◌, arith}
use Rattle.std.specs.Prelude.{slice_get}
use Rattle.hs_base.specs.declared.tree.forms.BinaryForm.TheVariants as b
use Rattle.hs_base.specs.declared.tree.forms.UnaryForm.TheVariants as u
use Rattle.rules_expansion.specs.trees.Trees.{T}
use Rattle.rules_expansion.specs.trees.Programs.{Fn}
use Rattle.rules_expansion.specs.Names.{Name}
use Rattle.rules_meaning.specs.Values.{V, Int, Left, Right, Env, value_at, Outcome, Gives}
use Rattle.rules_meaning.specs.Meaning.{then, unary_of, binary_of, functions_of}
use Rattle.rules_expansion.specs.Core.{CoreEx, OfScript, Read, JustRead, NoValue, BelowZero, IsZero, SameExn, Killed, Nil, LeftRead, RightRead, RightLeft, RightRight, RightNil, PairRead, FirstOf, SecondOf}
use Rattle.rules_meaning.specs.CoreMeaning.{read, value_of_core}
use Rattle.rules_sorts.specs.Sorts.{Sort, SortedName}
use Rattle.rules_typing.specs.Typing as typing
use Rattle.rules_code.specs.Slots.{Scope, slot_of, roots_of, run, at_slot}
use Rattle.rules_code.specs.CodeTrees.{is_unread, slot_or_end, slot_read, slotted_core_ex}
use Rattle.rules_code.specs.Matching.{Seen, Matches}
use Rattle.rules_code.proofs.Slotted.{slots_mean}
use Rattle.hs_soundness.specs.CoreSorts.{names_of, CoreHas, SlotsFit}

none_at_end : (vs : List V) (n : ℕ) → length vs ≤ n → slice_get vs n ≡ None
none_at_end [] n h = refl
none_at_end (v ∷ vs) zero h = absurd (omega arith)
none_at_end (v ∷ vs) (suc n) h = none_at_end vs n (omega arith)

slot_is : (o : Option ℕ) (r : Option V) (s : Scope) (vs : List V) → length vs ≡ length s → Seen o r vs → at_slot (slice_get vs (slot_or_end o s)) ≡ read r Gives
slot_is None None s vs l h = ap at_slot (none_at_end vs (length s) (omega (arith, l)))
slot_is None (Some v) s vs l h = absurd h
slot_is (Some k) None s vs l h = absurd h
slot_is (Some k) (Some v) s vs l h = ap at_slot h

read_then : (r : Option V) (f : V → Outcome) → then (read r Gives) f ≡ read r f
read_then None f = refl
read_then (Some v) f = refl

read_same : (r : Option V) (f g : V → Outcome) → ((v : V) → f v ≡ g v) → read r f ≡ read r g
read_same None f g h = refl
read_same (Some v) f g h = h v

read_twice : (r : Option V) (f g : V → V) → then (read r (λ v. Gives (f v))) (λ v. Gives (g v)) ≡ read r (λ v. Gives (g (f v)))
read_twice None f g = refl
read_twice (Some v) f g = refl

module _ (cells : ℕ → T → Type 0) where
  -- a name that something reads
  read_is : (g : List SortedName) (env : Env) (vs : List V) (y : Name) → is_unread y ≡ false → Matches (names_of g) env vs → run (slot_read (names_of g) y) vs ≡ read (value_at y env) Gives
  read_is g env vs y h m = slot_is (slot_of (names_of g) y) (value_at y env) (names_of g) vs m.size (m.seen y h)

  -- the same with a constructor around the value
  gives_is : (g : List SortedName) (env : Env) (vs : List V) (y : Name) (side : V → V) → is_unread y ≡ false → Matches (names_of g) env vs
      → then (run (slot_read (names_of g) y) vs) (λ v. Gives (side v)) ≡ read (value_at y env) (λ v. Gives (side v))
  gives_is g env vs y side h m = ap (λ o. then o (λ v. Gives (side v))) (read_is g env vs y h m) ∙ read_then (value_at y env) (λ v. Gives (side v))

  pub core_slots : (script : List Fn) (c : typing.Ctx) (g : List SortedName) (env : Env) (vs : List V) (e : CoreEx) (k : Sort) → CoreHas c g e k → SlotsFit cells g env vs → run (slotted_core_ex (roots_of script) (names_of g) e) vs ≡ value_of_core (functions_of script) env e
  core_slots script c g env vs (OfScript e) k h f = slots_mean script (names_of g) env vs f.slots e
  core_slots script c g env vs (Read y) k h f = read_is g env vs y h.0 f.slots
  core_slots script c g env vs (JustRead y) k h f = ap (λ o. then o (unary_of u.Just)) (read_is g env vs y h.1.0 f.slots) ∙ read_then (value_at y env) (unary_of u.Just)
  core_slots script c g env vs NoValue k h f = refl
  core_slots script c g env vs (BelowZero y) k h f = ap (λ o. then o (λ v. binary_of b.Less v (Int (pos 0)))) (read_is g env vs y h.0.0 f.slots) ∙ read_then (value_at y env) (λ v. binary_of b.Less v (Int (pos 0)))
  core_slots script c g env vs (IsZero y) k h f = ap (λ o. then o (λ v. binary_of b.Equal v (Int (pos 0)))) (read_is g env vs y h.0.0 f.slots) ∙ read_then (value_at y env) (λ v. binary_of b.Equal v (Int (pos 0)))
  core_slots script c g env vs (SameExn y z) k h f =
      ap (λ o. then o (λ v. then (run (slot_read (names_of g) z) vs) (binary_of b.Equal v))) (read_is g env vs y h.0.0 f.slots)
      ∙ (read_then (value_at y env) (λ v. then (run (slot_read (names_of g) z) vs) (binary_of b.Equal v))
      ∙ read_same (value_at y env) _ _ (λ v. ap (λ o. then o (binary_of b.Equal v)) (read_is g env vs z h.1.0 f.slots) ∙ read_then (value_at z env) (binary_of b.Equal v)))
  core_slots script c g env vs Killed k h f = refl
  core_slots script c g env vs Nil k h f = refl
  core_slots script c g env vs (LeftRead y) k h f = gives_is g env vs y Left h.2.0 f.slots
  core_slots script c g env vs (RightRead y) k h f = gives_is g env vs y Right h.2.0 f.slots
  core_slots script c g env vs (RightLeft y) k h f = ap (λ o. then o (λ v. Gives (Right v))) (gives_is g env vs y Left h.3.0 f.slots) ∙ read_twice (value_at y env) Left Right
  core_slots script c g env vs (RightRight y) k h f = ap (λ o. then o (λ v. Gives (Right v))) (gives_is g env vs y Right h.3.0 f.slots) ∙ read_twice (value_at y env) Right Right
  core_slots script c g env vs RightNil k h f = refl
  core_slots script c g env vs (PairRead y z) k h f =
      let q = both_read h in
      ap (λ o. then o (λ v. then (run (slot_read (names_of g) z) vs) (binary_of b.Pair v))) (read_is g env vs y q.0 f.slots)
      ∙ (read_then (value_at y env) (λ v. then (run (slot_read (names_of g) z) vs) (binary_of b.Pair v))
      ∙ read_same (value_at y env) _ _ (λ v. ap (λ o. then o (binary_of b.Pair v)) (read_is g env vs z q.1 f.slots) ∙ read_then (value_at z env) (binary_of b.Pair v)))
    where
      both_read : CoreHas c g (PairRead y z) k → (is_unread y ≡ false) × (is_unread z ≡ false)
      both_read (inl q) = (q.1.0, q.2.0)
      both_read (inr q) = (q.2.0, q.3.0)
  core_slots script c g env vs (FirstOf y) k h f = ap (λ o. then o (unary_of u.Fst)) (read_is g env vs y h.1.0 f.slots) ∙ read_then (value_at y env) (unary_of u.Fst)
  core_slots script c g env vs (SecondOf y) k h f = ap (λ o. then o (unary_of u.Snd)) (read_is g env vs y h.1.0 f.slots) ∙ read_then (value_at y env) (unary_of u.Snd)
