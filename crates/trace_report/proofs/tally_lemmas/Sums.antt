-- What one more entry adds to each number.
use Rattle.std.proofs.Common.{◌≡◌, ℕ, ◌+◌, max, ◌≤◌, List, [], ◌∷◌, ◌++◌, length, Some, None, refl, sym, ap, ◌∙◌, subst, arith, append_assoc, length-append}
use Rattle.std.proofs.lemmas.List.{append-nil}
use Rattle.hs_rules.specs.declared.entry.Entry.{Entry}
use Rattle.rules_expansion.specs.trees.Programs.{Fn}
use Rattle.rules_meaning.specs.Values.{V}
use Rattle.rules_meaning.specs.CoreMeaning.{Code, code_of}
use Rattle.rules_waiting.specs.OneCell.{Cell, Call, call}
use Rattle.hs_rules.specs.State.{State}
use Rattle.hs_rules.specs.Entries.{next}
use Rattle.hs_rules.specs.Runs.{Run, first_of, IsRun}
use Rattle.hs_laws.specs.CellLaw.{calls_of, after_calls, went_out, outs_by, calls_from, calls_after, calls, unmade, alone, outs}
use Rattle.trace_report.specs.tally.Reporting.{total, total_from, total_after, total_of, greatest_from, greatest_after, greatest_of}
use Rattle.hs_laws.proofs.CellHistories.{more_calls}
use Rattle.hs_laws.proofs.CellRuns.{after_both}

pub total_more : (f : Entry → ℕ) (es : List Entry) (e : Entry) → total f (es ++ e ∷ []) ≡ total f es + f e
total_more f [] e = omega arith
total_more f (x ∷ es) e = let k = total_more f es e in omega (arith, k)

-- ---- by the states that the entries leave
total_next : (f : Entry → State → ℕ) (code : Code) (s m : State) (x : Entry) (es : List Entry) → next code s x ≡ Some m → total_from f code s (x ∷ es) ≡ f x m + total_from f code m es
total_next f code s m x es n = ap (λ o. elim o [ None ↦ 0 | Some u ↦ f x u + total_from f code u es ]) n

total_from_more : (f : Entry → State → ℕ) (code : Code) (es : List Entry) (s u v : State) (e : Entry) → Run code s es u → next code u e ≡ Some v → total_from f code s (es ++ e ∷ []) ≡ total_from f code s es + f e v
total_from_more f code [] s u v e r n = let k = total_next f code s v e [] (subst (λ x. next code x e ≡ Some v) (sym r) n) in omega (arith, k)
total_from_more f code (x ∷ es) s u v e r n =
    let a = total_next f code s r.0 x (es ++ e ∷ []) r.1.0 in
    let b = total_next f code s r.0 x es r.1.0 in
    let k = total_from_more f code es r.0 u v e r.2 n in
    omega (arith, a, b, k)

pub total_of_more : (f : Entry → State → ℕ) (ds : List Fn) (es : List Entry) (u v : State) (e : Entry) → IsRun ds es u → next (code_of ds) u e ≡ Some v → total_of f ds (es ++ e ∷ []) ≡ total_of f ds es + f e v
total_of_more f ds es u v e r n =
    subst (λ o. total_after f (code_of ds) o (es ++ e ∷ []) ≡ total_after f (code_of ds) o es + f e v) (sym r.1) (total_from_more f (code_of ds) es r.0 u v e r.2 n)

-- ---- the greatest
greatest_next : (f : State → ℕ) (code : Code) (s m : State) (x : Entry) (es : List Entry) → next code s x ≡ Some m → greatest_from f code s (x ∷ es) ≡ max (f s) (greatest_from f code m es)
greatest_next f code s m x es n = ap (λ o. max (f s) (elim o [ None ↦ 0 | Some u ↦ greatest_from f code u es ])) n

greatest_from_more : (f : State → ℕ) (code : Code) (es : List Entry) (s u v : State) (e : Entry) → Run code s es u → next code u e ≡ Some v → greatest_from f code s (es ++ e ∷ []) ≡ max (greatest_from f code s es) (f v)
greatest_from_more f code [] s u v e r n = greatest_next f code s v e [] (subst (λ x. next code x e ≡ Some v) (sym r) n)
greatest_from_more f code (x ∷ es) s u v e r n =
    let a = greatest_next f code s r.0 x (es ++ e ∷ []) r.1.0 in
    let b = greatest_next f code s r.0 x es r.1.0 in
    let k = greatest_from_more f code es r.0 u v e r.2 n in
    omega (arith, a, b, k)

pub greatest_of_more : (f : State → ℕ) (ds : List Fn) (es : List Entry) (u v : State) (e : Entry) → IsRun ds es u → next (code_of ds) u e ≡ Some v → greatest_of f ds (es ++ e ∷ []) ≡ max (greatest_of f ds es) (f v)
greatest_of_more f ds es u v e r n =
    subst (λ o. greatest_after f (code_of ds) o (es ++ e ∷ []) ≡ max (greatest_after f (code_of ds) o es) (f v)) (sym r.1) (greatest_from_more f (code_of ds) es r.0 u v e r.2 n)

-- before the first entry
pub greatest_first : (f : State → ℕ) (ds : List Fn) (s : State) → first_of ds ≡ Some s → greatest_of f ds [] ≡ f s
greatest_first f ds s e = ap (λ o. greatest_after f (code_of ds) o []) e

-- what each state has is no more than the greatest
greatest_from_last : (f : State → ℕ) (code : Code) (es : List Entry) (s u : State) → Run code s es u → f u ≤ greatest_from f code s es
greatest_from_last f code [] s u r = subst (λ x. f x ≤ f s) r (omega arith)
greatest_from_last f code (x ∷ es) s u r = let k = greatest_from_last f code es r.0 u r.2 in let b = greatest_next f code s r.0 x es r.1.0 in omega (arith, k, b)

pub greatest_last : (f : State → ℕ) (ds : List Fn) (es : List Entry) (u : State) → IsRun ds es u → f u ≤ greatest_of f ds es
greatest_last f ds es u r = subst (λ o. f u ≤ greatest_after f (code_of ds) o es) (sym r.1) (greatest_from_last f (code_of ds) es r.0 u r.2)

-- ---- calls on a cell
calls_from_more : (code : Code) (m : ℕ) (es : List Entry) (s u v : State) (e : Entry) → Run code s es u → next code u e ≡ Some v → calls_from code m s (es ++ e ∷ []) ≡ calls_from code m s es ++ calls_of m u e
calls_from_more code m [] s u v e r n =
    more_calls code m s v e [] (subst (λ x. next code x e ≡ Some v) (sym r) n) ∙ (append-nil (calls_of m s e) ∙ ap (λ x. calls_of m x e) r)
calls_from_more code m (x ∷ es) s u v e r n =
    more_calls code m s r.0 x (es ++ e ∷ []) r.1.0
    ∙ (ap (λ z. calls_of m s x ++ z) (calls_from_more code m es r.0 u v e r.2 n)
    ∙ (sym (append_assoc (calls_of m s x) (calls_from code m r.0 es) (calls_of m u e))
    ∙ ap (λ z. z ++ calls_of m u e) (sym (more_calls code m s r.0 x es r.1.0))))

pub calls_more : (ds : List Fn) (m : ℕ) (es : List Entry) (u v : State) (e : Entry) → IsRun ds es u → next (code_of ds) u e ≡ Some v → calls ds (es ++ e ∷ []) m ≡ calls ds es m ++ calls_of m u e
calls_more ds m es u v e r n =
    subst (λ o. calls_after o (code_of ds) m (es ++ e ∷ []) ≡ calls_after o (code_of ds) m es ++ calls_of m u e) (sym r.1) (calls_from_more (code_of ds) m es r.0 u v e r.2 n)

pub alone_more : (ds : List Fn) (m : ℕ) (es : List Entry) (u v : State) (e : Entry) → IsRun ds es u → next (code_of ds) u e ≡ Some v → alone ds (es ++ e ∷ []) m ≡ after_calls (calls_of m u e) (alone ds es m)
alone_more ds m es u v e r n = ap (λ qs. after_calls qs unmade) (calls_more ds m es u v e r n) ∙ after_both (calls ds es m) (calls_of m u e) unmade

outs_both : (qs rs : List (Call V)) (c : Cell V) → outs_by (qs ++ rs) c ≡ outs_by qs c ++ outs_by rs (after_calls qs c)
outs_both [] rs c = refl
outs_both (q ∷ qs) rs c =
    ap (λ z. went_out (call q c).replies ++ z) (outs_both qs rs (call q c).cell)
    ∙ sym (append_assoc (went_out (call q c).replies) (outs_by qs (call q c).cell) (outs_by rs (after_calls qs (call q c).cell)))

pub outs_more : (ds : List Fn) (m : ℕ) (es : List Entry) (u v : State) (e : Entry) → IsRun ds es u → next (code_of ds) u e ≡ Some v → length (outs ds (es ++ e ∷ []) m) ≡ length (outs ds es m) + length (outs_by (calls_of m u e) (alone ds es m))
outs_more ds m es u v e r n =
    ap length (ap (λ qs. outs_by qs unmade) (calls_more ds m es u v e r n) ∙ outs_both (calls ds es m) (calls_of m u e) unmade)
    ∙ length-append (outs ds es m) (outs_by (calls_of m u e) (alone ds es m))
