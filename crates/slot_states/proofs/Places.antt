-- A line after some threads have left it, whatever the order in which they are named.
use Rattle.std.proofs.Common.{◌≡◌, ℕ, zero, suc, ◌<◌, ◌==◌, List, [], ◌∷◌, length, Bool, true, false, cond, Option, Some, None, refl, sym, ap, ◌∙◌, subst, arith, inl, inr, ⊎_elim, slice_get}
use Rattle.std.specs.Prelude.{Contains, slice_index_or}
use Rattle.rules_meaning.specs.Values.{V}
use Rattle.rules_waiting.specs.OneCell.{Place, Cell, cell_of, leaves_line, leave_line}
use Rattle.rules_waiting.specs.Waiting.{line_of}
use Rattle.hs_rules.specs.State.{State}
use Rattle.hs_laws.proofs.Lists.{cond_true, cond_false, equal_or, Ones, StandsIn}
use Rattle.slot_states.specs.SlotStates.{SameCell, left_lines, all_left}
use Rattle.slot_states.proofs.Leaving.{out_of_line, left_cell, left_count}

-- ---- whether a number stands in a list
abbrev pub is_among : ℕ → List ℕ → Bool
is_among t [] = false
is_among t (u ∷ us) = cond (u == t) true (is_among t us)

pub among_is : (t : ℕ) (us : List ℕ) → StandsIn t us → is_among t us ≡ true
among_is t [] h = absurd h
among_is t (u ∷ us) h =
    ⊎_elim
    (λ e. cond_true (u == t) true (is_among t us) e.0)
    (λ e. cond_false (u == t) true (is_among t us) e.0 ∙ among_is t us (⊎_elim (λ q. absurd (e.1 q)) (λ k. k) h))
    (equal_or u t)

pub stands_among : (t : ℕ) (us : List ℕ) → is_among t us ≡ true → StandsIn t us
stands_among t [] h = absurd (cc h)
stands_among t (u ∷ us) h =
    ⊎_elim
    (λ e. inl e.1)
    (λ e. inr (stands_among t us (sym (cond_false (u == t) true (is_among t us) e.0) ∙ h)))
    (equal_or u t)

pub same_among : (ts us : List ℕ) → ((t : ℕ) → StandsIn t ts → StandsIn t us) → ((t : ℕ) → StandsIn t us → StandsIn t ts) → (t : ℕ) → is_among t ts ≡ is_among t us
same_among ts us to from t = by (is_among t ts) (is_among t us) refl refl
  where
    by : (b c : Bool) → is_among t ts ≡ b → is_among t us ≡ c → b ≡ c
    by true true p q = refl
    by false false p q = refl
    by true false p q = sym (among_is t us (to t (stands_among t ts p))) ∙ q
    by false true p q = sym p ∙ among_is t ts (from t (stands_among t us q))

at_stands : (us : List ℕ) (k t : ℕ) → k < length us → slice_index_or us k t ≡ t → StandsIn t us
at_stands [] k t lt e = absurd (omega (arith, lt))
at_stands (u ∷ us) zero t lt e = inl e
at_stands (u ∷ us) (suc k) t lt e = inr (at_stands us k t (omega (arith, lt)) e)

pub contains_stands : (us : List ℕ) (t : ℕ) → Contains us t → StandsIn t us
contains_stands us t h = at_stands us h.0 t h.1 h.2

pub stands_contains : (us : List ℕ) (t : ℕ) → StandsIn t us → Contains us t
stands_contains [] t h = absurd h
stands_contains (u ∷ us) t (inl e) = (0, omega arith, e)
stands_contains (u ∷ us) t (inr h) = let k = stands_contains us t h in let lt = k.1 in (suc k.0, omega (arith, lt), k.2)

pub some_stands : (t : ℕ) (us : List ℕ) → StandsIn t us → (v : ℕ) × (vs : List ℕ) × (us ≡ v ∷ vs)
some_stands t [] h = absurd h
some_stands t (u ∷ us) h = (u, us, refl)

pub one_of : (P : ℕ → Type 0) (t : ℕ) (us : List ℕ) → Ones P us → StandsIn t us → P t
one_of P t [] h k = absurd k
one_of P t (u ∷ us) h (inl e) = subst P e h.0
one_of P t (u ∷ us) h (inr k) = one_of P t us h.1 k

-- ---- the places that stay
abbrev kept : List ℕ → List (Place V) → List (Place V)
kept ts [] = []
kept ts (p ∷ ps) = cond (is_among p.thread ts) (kept ts ps) (p ∷ kept ts ps)

kept_all : (ps : List (Place V)) → ps ≡ kept [] ps
kept_all [] = refl
kept_all (p ∷ ps) = ap (λ qs. p ∷ qs) (kept_all ps)

kept_more : (t : ℕ) (ts : List ℕ) (ps : List (Place V)) → kept ts (leaves_line t ps) ≡ kept (t ∷ ts) ps
kept_more t ts [] = refl
kept_more t ts (p ∷ ps) =
    ⊎_elim
    (λ e.
    let there : is_among p.thread (t ∷ ts) ≡ true = cond_true (t == p.thread) true (is_among p.thread ts) (turned e.1) in
    ap (kept ts) (cond_true (p.thread == t) (leaves_line t ps) (p ∷ leaves_line t ps) e.0)
    ∙ (kept_more t ts ps ∙ sym (cond_true (is_among p.thread (t ∷ ts)) (kept (t ∷ ts) ps) (p ∷ kept (t ∷ ts) ps) there)))
    (λ e.
    let same : is_among p.thread ts ≡ is_among p.thread (t ∷ ts) = sym (cond_false (t == p.thread) true (is_among p.thread ts) (apart e.1)) in
    ap (kept ts) (cond_false (p.thread == t) (leaves_line t ps) (p ∷ leaves_line t ps) e.0)
    ∙ (ap (λ qs. cond (is_among p.thread ts) qs (p ∷ qs)) (kept_more t ts ps) ∙ ap (λ b. cond b (kept (t ∷ ts) ps) (p ∷ kept (t ∷ ts) ps)) same))
    (equal_or p.thread t)
  where
    turned : p.thread ≡ t → t == p.thread ≡ true
    turned q = ⊎_elim (λ f. f.0) (λ f. absurd (f.1 (sym q))) (equal_or t p.thread)

    apart : (p.thread ≡ t → ⊥) → t == p.thread ≡ false
    apart n = ⊎_elim (λ f. absurd (n (sym f.1))) (λ f. f.0) (equal_or t p.thread)

leave_is_kept : (ts : List ℕ) (ps : List (Place V)) → leave_line ts ps ≡ kept ts ps
leave_is_kept [] ps = kept_all ps
leave_is_kept (t ∷ ts) ps = leave_is_kept ts (leaves_line t ps) ∙ kept_more t ts ps

kept_same : (ts us : List ℕ) → ((t : ℕ) → is_among t ts ≡ is_among t us) → (ps : List (Place V)) → kept ts ps ≡ kept us ps
kept_same ts us h [] = refl
kept_same ts us h (p ∷ ps) = ap (λ qs. cond (is_among p.thread ts) qs (p ∷ qs)) (kept_same ts us h ps) ∙ ap (λ b. cond b (kept us ps) (p ∷ kept us ps)) (h p.thread)

-- the same threads leave the same places
pub leave_same : (ts us : List ℕ) → ((t : ℕ) → is_among t ts ≡ is_among t us) → (ps : List (Place V)) → leave_line ts ps ≡ leave_line us ps
leave_same ts us h ps = leave_is_kept ts ps ∙ (kept_same ts us h ps ∙ sym (leave_is_kept us ps))

-- ---- all cells
abbrev pub all_out : List ℕ → Option (Cell V) → Option (Cell V)
all_out [] o = o
all_out (t ∷ ts) o = all_out ts (out_of_line t o)

pub all_left_cell : (ts : List ℕ) (m : ℕ) (cs : List (Cell V)) → slice_get (all_left ts cs) m ≡ all_out ts (slice_get cs m)
all_left_cell [] m cs = refl
all_left_cell (t ∷ ts) m cs = all_left_cell ts m (left_lines t cs) ∙ ap (all_out ts) (left_cell t m cs)

pub all_left_count : (ts : List ℕ) (cs : List (Cell V)) → length (all_left ts cs) ≡ length cs
all_left_count [] cs = refl
all_left_count (t ∷ ts) cs = all_left_count ts (left_lines t cs) ∙ left_count t cs

none_out : (ts : List ℕ) → all_out ts None ≡ None
none_out [] = refl
none_out (t ∷ ts) = none_out ts

some_out : (ts : List ℕ) (c : Cell V) → all_out ts (Some c) ≡ Some (cell_of c.content (leave_line ts c.line))
some_out [] c = refl
some_out (t ∷ ts) c = some_out ts (cell_of c.content (leaves_line t c.line))

-- the cell that is shown after all these have left its line
pub all_shown : (m : ℕ) (ts : List ℕ) (s u : State) (o : Option (Cell V)) → slice_get u.cells m ≡ slice_get s.cells m → line_of m u.blocked ≡ leave_line ts (line_of m s.blocked) → SameCell m s o → SameCell m u (all_out ts o)
all_shown m ts s u None c l h = subst (SameCell m u) (sym (none_out ts)) (c ∙ h)
all_shown m ts s u (Some k) c l h = subst (SameCell m u) (sym (some_out ts k)) (record { content = c ∙ h.content; line = l ∙ ap (leave_line ts) h.line })
