-- Environments that fit: with one name more, and where more numbers are of a type.
use Rattle.std.proofs.Common.{◌≡◌, ℕ, List, [], ◌∷◌, ◌++◌, length, Bool, true, false, cond, Option, Some, None, refl, sym, subst, arith, length-append}
use Rattle.rules_expansion.specs.trees.Trees.{T, unit, int, bool, text, thread, exn, pair, maybe, either, list, cell, async}
use Rattle.rules_meaning.specs.Values as val
use Rattle.rules_expansion.specs.Names.{Name, Written, Added, same_name, Unread}
use Rattle.rules_meaning.specs.Values.{V, Pair, Nothing, Just, Left, Right, Nil, Cons, Env, with_name, value_at}
use Rattle.rules_sorts.specs.Sorts.{Sort, a_value, a_masking_name, an_instance, a_scope_cell, SortedName, sort_at}
use Rattle.rules_sorts.specs.TypedMeaning.{of_pair, of_maybe, of_either, of_list, of_thread, of_cell, HasV, any_cell}
use Rattle.rules_code.specs.Slots.{Scope, slot_of}
use Rattle.rules_code.specs.CodeTrees.{is_unread}
use Rattle.rules_code.specs.Matching.{Matches}
use Rattle.rules_code.proofs.Slotted.{seen_bound}
use Rattle.hs_soundness.specs.CoreSorts.{names_of, FitsAt, FitsScope, SlotsFit}

-- ---- more numbers of a type

pair_kept : (P Q R S : V → Type 0) → ((v : V) → P v → R v) → ((v : V) → Q v → S v) → (v : V) → of_pair P Q v → of_pair R S v
pair_kept P Q R S f g (Pair a c) h = (f a h.0, g c h.1)
pair_kept P Q R S f g _ h = absurd h

maybe_kept : (P R : V → Type 0) → ((v : V) → P v → R v) → (v : V) → of_maybe P v → of_maybe R v
maybe_kept P R f Nothing h = tt
maybe_kept P R f (Just a) h = f a h
maybe_kept P R f _ h = absurd h

either_kept : (P Q R S : V → Type 0) → ((v : V) → P v → R v) → ((v : V) → Q v → S v) → (v : V) → of_either P Q v → of_either R S v
either_kept P Q R S f g (Left a) h = f a h
either_kept P Q R S f g (Right a) h = g a h
either_kept P Q R S f g _ h = absurd h

list_kept : (P R : V → Type 0) → ((v : V) → P v → R v) → (v : V) → of_list P v → of_list R v
list_kept P R f Nil h = tt
list_kept P R f (Cons a c) h = (f a h.0, list_kept P R f c h.1)
list_kept P R f _ h = absurd h

cell_kept : (P R : ℕ → Type 0) → ((m : ℕ) → P m → R m) → (v : V) → of_cell P v → of_cell R v
cell_kept P R f (val.Cell m) h = f m h
cell_kept P R f _ h = absurd h

thread_kept : (P R : ℕ → Type 0) → ((m : ℕ) → P m → R m) → (v : V) → of_thread P v → of_thread R v
thread_kept P R f (val.Thread m) h = f m h
thread_kept P R f _ h = absurd h

module _ (cells more : ℕ → T → Type 0) (grow : (m : ℕ) (t : T) → cells m t → more m t) where
  -- the cell of a scope
  pub end_more : (a : T) (v : V) → of_cell (λ m. cells m (async a)) v → of_cell (λ m. more m (async a)) v
  end_more a v h = cell_kept (λ m. cells m (async a)) (λ m. more m (async a)) (λ m q. grow m (async a) q) v h

  pub has_more : (t : T) (v : V) → HasV cells t v → HasV more t v
  has_more unit v h = h
  has_more int v h = h
  has_more bool v h = h
  has_more text v h = h
  has_more thread v h = thread_kept (λ m. cells m thread) (λ m. more m thread) (λ m q. grow m thread q) v h
  has_more exn v h = h
  has_more (pair a c) v h = pair_kept (HasV cells a) (HasV cells c) (HasV more a) (HasV more c) (has_more a) (has_more c) v h
  has_more (maybe a) v h = maybe_kept (HasV cells a) (HasV more a) (has_more a) v h
  has_more (either a c) v h = either_kept (HasV cells a) (HasV cells c) (HasV more a) (HasV more c) (has_more a) (has_more c) v h
  has_more (list a) v h = list_kept (HasV cells a) (HasV more a) (has_more a) v h
  has_more (cell a) v h = cell_kept (λ m. cells m (cell a)) (λ m. more m (cell a)) (λ m q. grow m (cell a) q) v h
  has_more (async a) v h =
      pair_kept (of_thread (λ m. cells m thread)) (of_cell (λ m. cells m (async a))) (of_thread (λ m. more m thread)) (of_cell (λ m. more m (async a)))
      (thread_kept (λ m. cells m thread) (λ m. more m thread) (λ m q. grow m thread q)) (end_more a) v h

  at_more : (y : Name) (o : Option Sort) (r : Option V) → FitsAt cells y o r → FitsAt more y o r
  at_more y None None h = tt
  at_more y None (Some v) h = h
  at_more y (Some k) None h = h
  at_more (Written x) (Some (a_value t)) (Some v) h = has_more t v h
  at_more (Written x) (Some a_masking_name) (Some v) h = h
  at_more (Written x) (Some an_instance) (Some v) h = h
  at_more (Written x) (Some (a_scope_cell t)) (Some v) h = h
  at_more (Added z) (Some (a_value t)) (Some v) h = has_more t v h
  at_more (Added z) (Some a_masking_name) (Some v) h = h
  at_more (Added z) (Some an_instance) (Some v) h = h
  at_more (Added z) (Some (a_scope_cell t)) (Some v) h = end_more t v h
  at_more Unread (Some (a_value t)) (Some v) h = has_more t v h
  at_more Unread (Some a_masking_name) (Some v) h = h
  at_more Unread (Some an_instance) (Some v) h = h
  at_more Unread (Some (a_scope_cell t)) (Some v) h = end_more t v h

  pub scope_more : (g : List SortedName) (env : Env) → FitsScope cells g env → FitsScope more g env
  scope_more g env f y = at_more y (sort_at y g) (value_at y env) (f y)

-- what fits where numbers have types fits where each is of every type
pub fits_any : (cells : ℕ → T → Type 0) (g : List SortedName) (env : Env) (vs : List V) → SlotsFit cells g env vs → SlotsFit any_cell g env vs
fits_any cells g env vs f = record { slots = f.slots; sorts = scope_more cells any_cell (λ m t q. tt) g env f.sorts }

-- ---- one name more

-- a name that something reads is kept
kept : (y : Name) (v : V) (env : Env) → is_unread y ≡ false → with_name y v env ≡ record { name = y; value = v } ∷ env
kept (Written x) v env h = refl
kept (Added z) v env h = refl
kept Unread v env h = absurd (cc h)

slots_with : (s : Scope) (env : Env) (vs : List V) (y : Name) (v : V) → Matches s env vs → Matches (y ∷ s) (record { name = y; value = v } ∷ env) (vs ++ v ∷ [])
slots_with s env vs y v m = record {
  size = (let l = length-append vs (v ∷ []) in let z = m.size in omega (arith, l, z));
  seen = (λ x h. seen_bound (same_name x y) (length s) (slot_of s x) (value_at x env) vs v m.size (m.seen x h));
}

module _ (cells : ℕ → T → Type 0) where
  -- a sort and a value fit at each of two names that are the same
  fits_same : (x y : Name) (k : Sort) (v : V) → same_name x y ≡ true → FitsAt cells y (Some k) (Some v) → FitsAt cells x (Some k) (Some v)
  fits_same (Written x) (Written y) (a_value t) v e h = h
  fits_same (Written x) (Written y) a_masking_name v e h = h
  fits_same (Written x) (Written y) an_instance v e h = h
  fits_same (Written x) (Written y) (a_scope_cell t) v e h = h
  fits_same (Written x) (Added z) k v e h = absurd (cc e)
  fits_same (Added z) (Written y) k v e h = absurd (cc e)
  fits_same (Added z) (Added w) k v e h = h
  fits_same (Written x) Unread k v e h = absurd (cc e)
  fits_same (Added z) Unread k v e h = absurd (cc e)
  fits_same Unread (Written y) k v e h = absurd (cc e)
  fits_same Unread (Added w) k v e h = absurd (cc e)
  fits_same Unread Unread k v e h = h

  sorts_with : (g : List SortedName) (env : Env) (y : Name) (k : Sort) (v : V) → FitsScope cells g env → FitsAt cells y (Some k) (Some v) → FitsScope cells (record { name = y; sort = k } ∷ g) (record { name = y; value = v } ∷ env)
  sorts_with g env y k v f h x = by (same_name x y) refl
    where
      by : (t : Bool) → same_name x y ≡ t → FitsAt cells x (cond t (Some k) (sort_at x g)) (cond t (Some v) (value_at x env))
      by true e = fits_same x y k v e h
      by false e = f x

  pub fits_with : (g : List SortedName) (env : Env) (vs : List V) (y : Name) (k : Sort) (v : V) → is_unread y ≡ false → FitsAt cells y (Some k) (Some v) → SlotsFit cells g env vs → SlotsFit cells (record { name = y; sort = k } ∷ g) (with_name y v env) (vs ++ v ∷ [])
  fits_with g env vs y k v u h f =
      subst (λ z. SlotsFit cells (record { name = y; sort = k } ∷ g) z (vs ++ v ∷ [])) (sym (kept y v env u))
      (record { slots = slots_with (names_of g) env vs y v f.slots; sorts = sorts_with g env y k v f.sorts h })

  -- the same of an environment alone
  pub scope_with : (g : List SortedName) (env : Env) (y : Name) (k : Sort) (v : V) → is_unread y ≡ false → FitsAt cells y (Some k) (Some v) → FitsScope cells g env → FitsScope cells (record { name = y; sort = k } ∷ g) (with_name y v env)
  scope_with g env y k v u h f = subst (FitsScope cells (record { name = y; sort = k } ∷ g)) (sym (kept y v env u)) (sorts_with g env y k v f h)

  pub fits_none : SlotsFit cells [] [] []
  fits_none = record { slots = record { size = refl; seen = λ y h. tt }; sorts = λ y. tt }
