-- What a Stranded does: to those who are to be stranded, and to nobody else.
use Rattle.std.proofs.Common.{◌≡◌, ◌≢◌, ℕ, zero, suc, ◌<◌, ◌==◌, List, [], ◌∷◌, length, slice_get, Bool, true, false, cond, Option, Some, None, refl, sym, ap, ◌∙◌, subst, arith, inl, ⊎_elim}
use Rattle.hs_base.specs.declared.exn.Exn.TheVariants.{BlockedIndefinitely}
use Rattle.hs_rules.specs.declared.entry.Entry.TheVariants as entry
use Rattle.rules_meaning.specs.Values.{V}
use Rattle.rules_meaning.specs.CoreMeaning.{Code}
use Rattle.hs_rules.specs.Terms.{Part, Throw, term}
use Rattle.rules_waiting.specs.Waiting.{Reason, Waiting, leaves, is_blocked, reason_of}
use Rattle.hs_rules.specs.State.{Thread, State, with_term, frames_of, resume, resume_all}
use Rattle.hs_rules.specs.Entries.{is_stranded, stranded_below, stranded, next}
use Rattle.hs_laws.specs.MaskLaw.{WaitsOpen, WasRemoved, thrown_out, AreStranded}
use Rattle.hs_laws.proofs.Lists.{cond_true, cond_false, equal_or, item_same, item_below, Absent_in, Distinct, Ones, StandsIn, stands_before, stands_behind}
use Rattle.hs_laws.proofs.States.{other_thread, Strands, strands_each, stranded_distinct}
use Rattle.hs_laws.proofs.CellSteps.{reason_left, not_blocked_reason}
use Rattle.hs_laws.specs.cases.Cases as row
use Rattle.hs_laws.proofs.cases_lemmas.Entering.{case_of, all_are, waits_so, stranded_so}

-- ---- who is blocked
pub left_free : (t : ℕ) (ws : List (Waiting V)) → is_blocked t (leaves t ws) ≡ false
left_free t [] = refl
left_free t (w ∷ ws) =
    ⊎_elim
    (λ e. ap (is_blocked t) (cond_true (w.thread == t) (leaves t ws) (w ∷ leaves t ws) e.0) ∙ left_free t ws)
    (λ e. ap (is_blocked t) (cond_false (w.thread == t) (leaves t ws) (w ∷ leaves t ws) e.0) ∙ (cond_false (w.thread == t) true (is_blocked t (leaves t ws)) e.0 ∙ left_free t ws))
    (equal_or w.thread t)

pub blocked_reason : (t : ℕ) (ws : List (Waiting V)) → is_blocked t ws ≡ true → (r : Reason V) × (reason_of t ws ≡ Some r)
blocked_reason t [] b = absurd (cc b)
blocked_reason t (w ∷ ws) b =
    ⊎_elim
    (λ e. (w.reason, cond_true (w.thread == t) (Some w.reason) (reason_of t ws) e.0))
    (λ e.
    let k = blocked_reason t ws (sym (cond_false (w.thread == t) true (is_blocked t ws) e.0) ∙ b) in
    (k.0, cond_false (w.thread == t) (Some w.reason) (reason_of t ws) e.0 ∙ k.1))
    (equal_or w.thread t)

pub reason_blocked : (t : ℕ) (ws : List (Waiting V)) (r : Reason V) → reason_of t ws ≡ Some r → is_blocked t ws ≡ true
reason_blocked t ws r e = by (is_blocked t ws) refl
  where
    by : (b : Bool) → is_blocked t ws ≡ b → b ≡ true
    by true q = refl
    by false q = let z : ◌≡◌ {A = Option (Reason V)} None (Some r) = sym (not_blocked_reason t ws q) ∙ e in absurd (cc z)

-- ---- some threads get a part
abbrev Untouched : ℕ → State → State → Type 0
Untouched t s u = (slice_get u.threads t ≡ slice_get s.threads t) × (reason_of t u.blocked ≡ reason_of t s.blocked)

untouched : (t : ℕ) (ts : List ℕ) (p : Part) (s : State) → Absent_in t ts → Untouched t s (resume_all ts p s)
untouched t [] p s a = (refl, refl)
untouched t (u ∷ us) p s a =
    let apart : t ≢ u = λ e. a.0 (sym e) in
    let k = untouched t us p (resume u p s) a.1 in
    (k.0 ∙ other_thread s.threads u t (slice_get s.threads u) (term p (frames_of (slice_get s.threads u))) apart, k.1 ∙ reason_left u t s.blocked apart)

-- a thread with this part, where it stood
abbrev with_part : Part → Thread → Thread
with_part p th = record { term = term p th.term.frames; finished = th.finished }

own_part : (ts : List Thread) (t : ℕ) (p : Part) (th : Thread) → slice_get ts t ≡ Some th → slice_get (with_term t (slice_get ts t) (term p (frames_of (slice_get ts t))) ts) t ≡ Some (with_part p th)
own_part ts t p th e = subst (λ o. slice_get (with_term t o (term p (frames_of o)) ts) t ≡ Some (with_part p th)) (sym e) (item_same ts t th (with_part p th) e)

touched : (t : ℕ) (ts : List ℕ) (p : Part) (s : State) (th : Thread) → Distinct ts → StandsIn t ts → slice_get s.threads t ≡ Some th →
    (slice_get (resume_all ts p s).threads t ≡ Some (with_part p th)) × (reason_of t (resume_all ts p s).blocked ≡ None)
touched t [] p s th d h e = absurd h
touched t (u ∷ us) p s th d h e =
    ⊎_elim
    (λ q.
    let a : Absent_in t us = subst (λ v. Absent_in v us) q.1 d.0 in
    let k = untouched t us p (resume u p s) a in
    let own : slice_get (resume u p s).threads t ≡ Some (with_part p th) =
    subst (λ v. slice_get (resume v p s).threads t ≡ Some (with_part p th)) (sym q.1) (own_part s.threads t p th e) in
    let free : reason_of t (resume u p s).blocked ≡ None = subst (λ v. reason_of t (leaves v s.blocked) ≡ None) (sym q.1) (not_blocked_reason t (leaves t s.blocked) (left_free t s.blocked)) in
    (k.0 ∙ own, k.1 ∙ free))
    (λ q.
    let stands : StandsIn t us = ⊎_elim (λ x. absurd (q.1 x)) (λ x. x) h in
    touched t us p (resume u p s) th d.1 stands (other_thread s.threads u t (slice_get s.threads u) (term p (frames_of (slice_get s.threads u))) (λ x. q.1 (sym x)) ∙ e))
    (equal_or u t)

-- ---- who is to be stranded
pub among : (n t : ℕ) (s : State) → t < n → Strands s t → StandsIn t (stranded_below n s)
among zero t s l h = absurd (omega arith)
among (suc n) t s l h =
    ⊎_elim
    (λ q. stands_behind t (stranded_below n s) _ (by q.1))
    (λ q. stands_before t (stranded_below n s) _ (among n t s (omega (arith, q.1)) h))
    (equal_or n t)
  where
    by : n ≡ t → StandsIn t (cond (is_stranded (slice_get s.threads n) (reason_of n s.blocked)) (n ∷ []) [])
    by e = subst (StandsIn t) (sym (cond_true (is_stranded (slice_get s.threads n) (reason_of n s.blocked)) (n ∷ []) [] (subst (Strands s) (sym e) h))) (inl e)

apart_from : (P : ℕ → Type 0) (t : ℕ) (us : List ℕ) → Ones P us → (P t → ⊥) → Absent_in t us
apart_from P t [] h n = tt
apart_from P t (u ∷ us) h n = ((λ e. n (subst P e h.0)), apart_from P t us h.1 n)

waits_open : (s : State) (t : ℕ) → Strands s t → WaitsOpen s t
waits_open s t e =
    let w = waits_so s t (slice_get s.threads t) (reason_of t s.blocked) refl refl e in
    record { thread = w.thread; is = w.is; reason = w.reason; waits = w.waits; at = w.there; open_now = w.open_now }

strands_is : (s : State) (t : ℕ) → WaitsOpen s t → Strands s t
strands_is s t w = stranded_so s t (record { thread = w.thread; is = w.is; reason = w.reason; waits = w.waits; there = w.at; open_now = w.open_now })

-- ---- the entry
entry_is : {code : Code} {s u : State} → row.Enters code s entry.Stranded u → u ≡ resume_all (stranded s) (Throw BlockedIndefinitely) s
entry_is (row.strands {s = r} m e a) = ap (λ ts. resume_all ts (Throw BlockedIndefinitely) r) (sym (all_are a))

stranded_all : (s : State) → AreStranded s (resume_all (stranded s) (Throw BlockedIndefinitely) s)
stranded_all s = record {
  removed = λ t. (from t, to t);
  throw = λ t w. (hit t w).0;
  others = λ t n. untouched t (stranded s) (Throw BlockedIndefinitely) s (absent t n);
}
  where
    u : State
    u = resume_all (stranded s) (Throw BlockedIndefinitely) s

    hit : (t : ℕ) (w : WaitsOpen s t) → (slice_get u.threads t ≡ Some (thrown_out w.thread)) × (reason_of t u.blocked ≡ None)
    hit t w =
        touched t (stranded s) (Throw BlockedIndefinitely) s w.thread (stranded_distinct (length s.threads) s)
        (among (length s.threads) t s (item_below s.threads t w.thread w.is) (strands_is s t w)) w.is

    absent : (t : ℕ) → ¬ WaitsOpen s t → Absent_in t (stranded s)
    absent t n = apart_from (Strands s) t (stranded s) (strands_each (length s.threads) s) (λ e. n (waits_open s t e))

    free_now : (t : ℕ) → reason_of t u.blocked ≡ None → (b : Bool) → is_blocked t u.blocked ≡ b → b ≡ false
    free_now t e false q = refl
    free_now t e true q = let k = blocked_reason t u.blocked q in let z : ◌≡◌ {A = Option (Reason V)} None (Some k.0) = sym e ∙ k.1 in absurd (cc z)

    to : (t : ℕ) → WaitsOpen s t → WasRemoved s u t
    to t w = (reason_blocked t s.blocked w.reason w.waits, free_now t (hit t w).1 (is_blocked t u.blocked) refl)

    from : (t : ℕ) → WasRemoved s u t → WaitsOpen s t
    from t r = by (is_stranded (slice_get s.threads t) (reason_of t s.blocked)) refl
      where
        by : (b : Bool) → is_stranded (slice_get s.threads t) (reason_of t s.blocked) ≡ b → WaitsOpen s t
        by true e = waits_open s t e
        by false e =
            let k = blocked_reason t s.blocked r.0 in
            let a : Absent_in t (stranded s) = apart_from (Strands s) t (stranded s) (strands_each (length s.threads) s) (λ x. let z : true ≡ false = sym x ∙ e in cc z) in
            let still : reason_of t u.blocked ≡ Some k.0 = (untouched t (stranded s) (Throw BlockedIndefinitely) s a).1 ∙ k.1 in
            let z : true ≡ false = sym (reason_blocked t u.blocked k.0 still) ∙ r.1 in absurd (cc z)

pub are_stranded : (code : Code) (s u : State) → next code s entry.Stranded ≡ Some u → AreStranded s u
are_stranded code s u n = subst (AreStranded s) (sym (entry_is (case_of code s entry.Stranded u n))) (stranded_all s)
