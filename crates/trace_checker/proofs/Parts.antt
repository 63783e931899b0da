-- Parts of runs and of texts: their last entry.
use Rattle.std.proofs.Common.{◌≡◌, ℕ, zero, suc, ◌≤◌, List, [], ◌∷◌, ◌++◌, Option, Some, None, true, false, Bool, cond, sym, ap, ◌∙◌, subst, arith, append_assoc, slice_get}
use Rattle.std.specs.List.{flat_map, AllByRecursion}
use Rattle.std.proofs.lemmas.List.Concat.{flat_map-append}
use Rattle.std.proofs.lemmas.List.{append-nil}
use Rattle.hs_rules.specs.declared.entry.Entry.{Entry}
use Rattle.hs_rules.specs.declared.entry.Entry.TheVariants as entry
use Rattle.hs_rules.specs.Entries.{next, Leads, on_thread}
use Rattle.hs_rules.specs.Histories.{cost_of}
use Rattle.hs_rules.specs.Runs.{IsRun}
use Rattle.hs_rules.specs.State.{Thread, State}
use Rattle.hs_laws.proofs.RunParts.{run_before}
use Rattle.rules_meaning.specs.CoreMeaning.{Code, code_of}
use Rattle.rules_expansion.specs.trees.Programs.{Fn}
use Rattle.trace_text.specs.spelling.Traces.{Fits, header, line_of, trace_of, Reads}

-- ---- a run with an entry more

pub record Last (ds : List Fn) (es : List Entry) (e : Entry) (u : State) : Type 0 where
  pub before : State
  pub run : IsRun ds es before
  pub leads : Leads (code_of ds) before e u

pub last_leads : (ds : List Fn) (es : List Entry) (e : Entry) (u : State) → IsRun ds (es ++ e ∷ []) u → Last ds es e u
last_leads ds es e u run =
    let k = run_before ds es (e ∷ []) u run in
    record { before = k.0; run = k.1; leads = subst (Leads (code_of ds) k.0 e) k.2.2 k.2.1 }

-- ---- each legal entry costs a step

nothing : (o : Option Thread) (u : State) → on_thread o (λ th. None) ≡ Some u → ⊥
nothing None u e = absurd (cc e)
nothing (Some th) u e = by th.finished e
  where
    by : (f : Bool) → cond f None None ≡ Some u → ⊥
    by true e = absurd (cc e)
    by false e = absurd (cc e)

nothing_later : (main o : Option Thread) (u : State) → on_thread main (λ m. on_thread o (λ th. None)) ≡ Some u → ⊥
nothing_later None o u e = absurd (cc e)
nothing_later (Some m) o u e = by m.finished e
  where
    by : (f : Bool) → cond f None (on_thread o (λ th. None)) ≡ Some u → ⊥
    by true e = absurd (cc e)
    by false e = nothing o u e

pub costs_some : (code : Code) (s : State) (e : Entry) (u : State) → next code s e ≡ Some u → 1 ≤ cost_of e
costs_some code s (entry.Local t zero) u e = absurd (nothing_later (slice_get s.threads 0) (slice_get s.threads t) u e)
costs_some code s (entry.Local t (suc k)) u e = omega arith
costs_some code s (entry.Op t) u e = omega arith
costs_some code s (entry.Receive t) u e = omega arith
costs_some code s (entry.Wake t) u e = omega arith
costs_some code s (entry.Finish t) u e = omega arith
costs_some code s (entry.Tick at) u e = omega arith
costs_some code s entry.Stranded u e = omega arith

-- ---- a text that is read up to an entry

fit_before : (es : List Entry) (e : Entry) → AllByRecursion Fits (es ++ e ∷ []) → AllByRecursion Fits es × Fits e
fit_before [] e p = (tt, p.0)
fit_before (f ∷ es) e p = let k = fit_before es e p.1 in ((p.0, k.0), k.1)

pub last_spelled : (es : List Entry) (e : Entry) (rest : List ℕ) → trace_of (es ++ e ∷ []) ++ rest ≡ trace_of es ++ (line_of e ++ rest)
last_spelled es e rest =
    ap (λ z. (header ++ z) ++ rest) (flat_map-append line_of es (e ∷ []) ∙ ap (λ z. flat_map line_of es ++ z) (append-nil (line_of e)))
    ∙ (ap (λ z. z ++ rest) (sym (append_assoc header (flat_map line_of es) (line_of e))) ∙ append_assoc (trace_of es) (line_of e) rest)

-- before its last line
pub record Before (text : List ℕ) (es : List Entry) (e : Entry) (rest : List ℕ) : Type 0 where
  pub read : Reads text es (line_of e ++ rest)
  pub fits : Fits e

pub read_before : (text : List ℕ) (es : List Entry) (e : Entry) (rest : List ℕ) → Reads text (es ++ e ∷ []) rest → Before text es e rest
read_before text es e rest r =
    let k = fit_before es e r.fit in
    record { read = record { fit = k.0; spelled = r.spelled ∙ last_spelled es e rest }; fits = k.1 }
