-- Lines after some threads have left them, and a thread that stands in one of them alone.
use Rattle.std.proofs.Common.{◌≡◌, ◌≢◌, ℕ, zero, suc, ◌==◌, List, [], ◌∷◌, ◌++◌, Bool, true, false, cond, Option, Some, None, refl, sym, ap, ◌∙◌, ⊎_elim, slice_get, slice_set}
use Rattle.std.proofs.lemmas.Option.{same_Some}
use Rattle.rules_meaning.specs.Values.{V}
use Rattle.rules_waiting.specs.OneCell.{Place, Cell, Leave, cell_of, leaves_line, stands_in, call}
use Rattle.hs_laws.proofs.Lists.{cond_true, cond_false, equal_or, item_other}
use Rattle.slot_states.specs.SlotStates.{cell_at, left_lines, all_left}
use Rattle.slot_states.proofs.Leaving.{out_of_line, left_cell}
use Rattle.slot_states.proofs.Lines.{one_left}
use Rattle.slot_states.proofs.Places.{is_among}

-- ---- one line
pub not_among : (t u : ℕ) (us : List ℕ) → is_among t (u ∷ us) ≡ false → (u ≢ t) × (is_among t us ≡ false)
not_among t u us h =
    ⊎_elim
    (λ e. let z : true ≡ false = sym (cond_true (u == t) true (is_among t us) e.0) ∙ h in absurd (cc z))
    (λ e. (e.1, sym (cond_false (u == t) true (is_among t us) e.0) ∙ h))
    (equal_or u t)

-- another's leave is of no account to who stands there
stands_left : (t u : ℕ) (ps : List (Place V)) → u ≢ t → stands_in t (leaves_line u ps) ≡ stands_in t ps
stands_left t u [] n = refl
stands_left t u (p ∷ ps) n =
    ⊎_elim
    (λ e.
    ap (stands_in t) (cond_true (p.thread == u) (leaves_line u ps) (p ∷ leaves_line u ps) e.0)
    ∙ (stands_left t u ps n ∙ sym (cond_false (p.thread == t) true (stands_in t ps) (⊎_elim (λ q. absurd (n (sym e.1 ∙ q.1))) (λ q. q.0) (equal_or p.thread t)))))
    (λ e. ap (stands_in t) (cond_false (p.thread == u) (leaves_line u ps) (p ∷ leaves_line u ps) e.0) ∙ ap (cond (p.thread == t) true) (stands_left t u ps n))
    (equal_or p.thread u)

-- two threads leave in either order
both_leave : (t u : ℕ) (ps : List (Place V)) → leaves_line t (leaves_line u ps) ≡ leaves_line u (leaves_line t ps)
both_leave t u [] = refl
both_leave t u (p ∷ ps) = by (both_leave t u ps) (p.thread == t) (p.thread == u) refl refl
  where
    by : leaves_line t (leaves_line u ps) ≡ leaves_line u (leaves_line t ps) → (a b : Bool) → p.thread == t ≡ a → p.thread == u ≡ b → leaves_line t (cond (p.thread == u) (leaves_line u ps) (p ∷ leaves_line u ps)) ≡ leaves_line u (cond (p.thread == t) (leaves_line t ps) (p ∷ leaves_line t ps))
    by h true true x y =
        ap (leaves_line t) (cond_true (p.thread == u) (leaves_line u ps) (p ∷ leaves_line u ps) y)
        ∙ (h ∙ sym (ap (leaves_line u) (cond_true (p.thread == t) (leaves_line t ps) (p ∷ leaves_line t ps) x)))
    by h true false x y =
        ap (leaves_line t) (cond_false (p.thread == u) (leaves_line u ps) (p ∷ leaves_line u ps) y)
        ∙ (cond_true (p.thread == t) (leaves_line t (leaves_line u ps)) (p ∷ leaves_line t (leaves_line u ps)) x
        ∙ (h ∙ sym (ap (leaves_line u) (cond_true (p.thread == t) (leaves_line t ps) (p ∷ leaves_line t ps) x))))
    by h false true x y =
        ap (leaves_line t) (cond_true (p.thread == u) (leaves_line u ps) (p ∷ leaves_line u ps) y)
        ∙ (h
        ∙ sym (ap (leaves_line u) (cond_false (p.thread == t) (leaves_line t ps) (p ∷ leaves_line t ps) x) ∙ cond_true (p.thread == u) (leaves_line u (leaves_line t ps)) (p ∷ leaves_line u (leaves_line t ps)) y))
    by h false false x y =
        ap (leaves_line t) (cond_false (p.thread == u) (leaves_line u ps) (p ∷ leaves_line u ps) y)
        ∙ (cond_false (p.thread == t) (leaves_line t (leaves_line u ps)) (p ∷ leaves_line t (leaves_line u ps)) x
        ∙ (ap (λ qs. p ∷ qs) (h)
        ∙ sym (ap (leaves_line u) (cond_false (p.thread == t) (leaves_line t ps) (p ∷ leaves_line t ps) x) ∙ cond_false (p.thread == u) (leaves_line u (leaves_line t ps)) (p ∷ leaves_line u (leaves_line t ps)) y)))

-- ---- all lines
at_left : (u m : ℕ) (cs : List (Cell V)) → cell_at m (left_lines u cs) ≡ cell_of (cell_at m cs).content (leaves_line u (cell_at m cs).line)
at_left u m [] = refl
at_left u zero (x ∷ cs) = refl
at_left u (suc m) (x ∷ cs) = at_left u m cs

pub stands_still : (ts : List ℕ) (t m : ℕ) (cs : List (Cell V)) → is_among t ts ≡ false → stands_in t (cell_at m cs).line ≡ true → stands_in t (cell_at m (all_left ts cs)).line ≡ true
stands_still [] t m cs n h = h
stands_still (u ∷ ts) t m cs n h =
    let k = not_among t u ts n in
    stands_still ts t m (left_lines u cs) k.1 (ap (λ (z : Cell V). stands_in t z.line) (at_left u m cs) ∙ (stands_left t u (cell_at m cs).line k.0 ∙ h))

-- thread t stands in no line but that of cell m
abbrev pub NotElsewhere : ℕ → ℕ → List (Cell V) → Type 0
NotElsewhere t m cs = (j : ℕ) (x : Cell V) → j ≢ m → slice_get cs j ≡ Some x → leaves_line t x.line ≡ x.line

pub not_elsewhere : (t m : ℕ) (cs : List (Cell V)) (y : Cell V) → left_lines t cs ≡ slice_set cs m y → NotElsewhere t m cs
not_elsewhere t m cs y h j x n is =
    let q : Some (cell_of x.content (leaves_line t x.line)) ≡ Some x = sym (left_cell t j cs ∙ ap (out_of_line t) is) ∙ (ap (λ zs. slice_get zs j) h ∙ (item_other cs m j y n ∙ is)) in
    ap (λ (z : Cell V). z.line) (same_Some (cell_of x.content (leaves_line t x.line)) x q)

out_from : (u : ℕ) (o : Option (Cell V)) (x : Cell V) → out_of_line u o ≡ Some x → (y : Cell V) × (o ≡ Some y) × (leaves_line u y.line ≡ x.line)
out_from u None x e = absurd (cc e)
out_from u (Some y) x e = (y, refl, ap (λ (z : Cell V). z.line) (same_Some (cell_of y.content (leaves_line u y.line)) x e))

one_away : (t u m : ℕ) (cs : List (Cell V)) → NotElsewhere t m cs → NotElsewhere t m (left_lines u cs)
one_away t u m cs h j x n is =
    let k = out_from u (slice_get cs j) x (sym (left_cell u j cs) ∙ is) in
    ap (leaves_line t) (sym k.2) ∙ (both_leave t u k.0.line ∙ (ap (leaves_line u) (h j k.0 n k.1) ∙ k.2))

pub still_alone : (ts : List ℕ) (t m : ℕ) (cs : List (Cell V)) → NotElsewhere t m cs → NotElsewhere t m (all_left ts cs)
still_alone [] t m cs h = h
still_alone (u ∷ ts) t m cs h = still_alone ts t m (left_lines u cs) (one_away t u m cs h)

-- so it leaves all lines by leaving that one
pub leaves_alone : (t m : ℕ) (cs : List (Cell V)) → NotElsewhere t m cs → left_lines t cs ≡ slice_set cs m (call (Leave t) (cell_at m cs)).cell
leaves_alone t m cs h = one_left t m cs h

pub left_last : (ts : List ℕ) (t : ℕ) (cs : List (Cell V)) → all_left (ts ++ t ∷ []) cs ≡ left_lines t (all_left ts cs)
left_last [] t cs = refl
left_last (u ∷ ts) t cs = left_last ts t (left_lines u cs)
