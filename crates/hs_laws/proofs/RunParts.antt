-- Runs: one more entry, what comes before, and the state after.
use Rattle.std.proofs.Common.{◌≡◌, List, [], ◌∷◌, ◌++◌, Option, Some, None, refl, sym, ap, ◌∙◌, subst}
use Rattle.std.proofs.lemmas.Option.{same_Some}
use Rattle.hs_rules.specs.declared.entry.Entry.{Entry}
use Rattle.rules_expansion.specs.trees.Programs.{Fn}
use Rattle.rules_meaning.specs.CoreMeaning.{Code, code_of}
use Rattle.hs_rules.specs.State.{State}
use Rattle.hs_rules.specs.Entries.{next, Leads}
use Rattle.hs_rules.specs.Runs.{Run, then_next, after_from, first_of, after, IsRun}

-- ---- from any state

-- a run leaves its state
pub run_after : (code : Code) (es : List Entry) (s u : State) → Run code s es u → after_from code s es ≡ Some u
run_after code [] s u r = ap Some r
run_after code (e ∷ es) s u r = ap (λ o. then_next o (λ v. after_from code v es)) r.1.0 ∙ run_after code es r.0 u r.2

pub run_split : (code : Code) (front back : List Entry) (s u : State) → Run code s (front ++ back) u → (m : State) × Run code s front m × Run code m back u
run_split code [] back s u r = (s, refl, r)
run_split code (e ∷ es) back s u r = let k = run_split code es back r.0 u r.2 in (k.0, (r.0, r.1, k.1), k.2)

pub run_join : (code : Code) (front back : List Entry) (s m u : State) → Run code s front m → Run code m back u → Run code s (front ++ back) u
run_join code [] back s m u a b = subst (λ x. Run code x back u) (sym a) b
run_join code (e ∷ es) back s m u a b = (a.0, a.1, run_join code es back a.0 m u a.2 b)

-- ---- of a script

pub is_after : (ds : List Fn) (es : List Entry) (u : State) → IsRun ds es u → after ds es ≡ Some u
is_after ds es u r = ap (λ o. then_next o (λ s. after_from (code_of ds) s es)) r.1 ∙ run_after (code_of ds) es r.0 u r.2

-- a history leaves one state
pub same_after : (ds : List Fn) (es : List Entry) (s u : State) → IsRun ds es s → after ds es ≡ Some u → s ≡ u
same_after ds es s u r a = same_Some s u (sym (is_after ds es s r) ∙ a)

pub run_before : (ds : List Fn) (front back : List Entry) (u : State) → IsRun ds (front ++ back) u → (s : State) × IsRun ds front s × Run (code_of ds) s back u
run_before ds front back u r = let k = run_split (code_of ds) front back r.0 u r.2 in (k.0, (r.0, r.1, k.1), k.2)

-- each prefix of a run is a run, and leaves what it leaves
pub prefix_runs : (ds : List Fn) (es front back : List Entry) (u s : State) → IsRun ds es u → es ≡ front ++ back → after ds front ≡ Some s → IsRun ds front s × Run (code_of ds) s back u
prefix_runs ds es front back u s r split a =
    let k = run_before ds front back u (subst (λ z. IsRun ds z u) split r) in
    let same : k.0 ≡ s = same_after ds front k.0 s k.1 a in
    (subst (IsRun ds front) same k.1, subst (λ x. Run (code_of ds) x back u) same k.2)

pub run_more : (ds : List Fn) (es : List Entry) (e : Entry) (s u : State) → IsRun ds es s → Leads (code_of ds) s e u → IsRun ds (es ++ e ∷ []) u
run_more ds es e s u r l = (r.0, r.1, run_join (code_of ds) es (e ∷ []) r.0 s u r.2 (u, l, refl))

-- ---- the state after one more entry

only_next : (o : Option State) → then_next o (λ u. Some u) ≡ o
only_next None = refl
only_next (Some s) = refl

next_after : (o : Option State) (f g : State → Option State) → ((s : State) → f s ≡ g s) → then_next o f ≡ then_next o g
next_after None f g h = refl
next_after (Some s) f g h = h s

next_twice : (o : Option State) (f g : State → Option State) → then_next (then_next o f) g ≡ then_next o (λ s. then_next (f s) g)
next_twice None f g = refl
next_twice (Some s) f g = refl

pub after_from_more : (code : Code) (es : List Entry) (s : State) (e : Entry) → after_from code s (es ++ e ∷ []) ≡ then_next (after_from code s es) (λ u. next code u e)
after_from_more code [] s e = only_next (next code s e)
after_from_more code (x ∷ xs) s e =
    next_after (next code s x) (λ u. after_from code u (xs ++ e ∷ [])) (λ u. then_next (after_from code u xs) (λ v. next code v e)) (λ u. after_from_more code xs u e)
    ∙ sym (next_twice (next code s x) (λ u. after_from code u xs) (λ v. next code v e))

pub after_more : (ds : List Fn) (es : List Entry) (e : Entry) → after ds (es ++ e ∷ []) ≡ then_next (after ds es) (λ u. next (code_of ds) u e)
after_more ds es e =
    next_after (first_of ds) (λ s. after_from (code_of ds) s (es ++ e ∷ [])) (λ s. then_next (after_from (code_of ds) s es) (λ u. next (code_of ds) u e)) (λ s. after_from_more (code_of ds) es s e)
    ∙ sym (next_twice (first_of ds) (λ s. after_from (code_of ds) s es) (λ u. next (code_of ds) u e))
