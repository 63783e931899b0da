-- What a typed term's next local rule evaluates has a sort in a scope that its environment fits, so it is never stuck.
use Rattle.std.proofs.Common.{◌≡◌, ◌≢◌, ℕ, List, [], ◌∷◌, Some, slice_get, refl, subst}
use Rattle.hs_base.specs.declared.tree.script.Script.{Script}
use Rattle.hs_rules.specs.declared.entry.Entry.{Entry}
use Rattle.rules_expansion.specs.trees.Trees.{T, Exs, none, more}
use Rattle.rules_expansion.specs.trees.Programs.{Fn, script_of}
use Rattle.rules_meaning.specs.Values.{Env, Outcome, Gives, Throws, Stuck}
use Rattle.rules_meaning.specs.Meaning.{functions_of}
use Rattle.rules_meaning.specs.CoreMeaning.{code_of, value_of_core}
use Rattle.rules_sorts.specs.Sorts.{Sort, a_value, SortedName}
use Rattle.rules_sorts.specs.TypedMeaning.{WellAll, any_cell}
use Rattle.rules_typing.specs.Typing as typing
use Rattle.rules_typing.specs.TypingScripts.{Accepted}
use Rattle.rules_expansion.specs.Core.{CoreEx, Core}
use Rattle.hs_rules.specs.Terms.{Do, Term}
use Rattle.hs_rules.specs.LocalRules.{locals}
use Rattle.hs_rules.specs.State.{Thread, State}
use Rattle.hs_rules.specs.Runs.{IsRun}
use Rattle.hs_soundness.specs.CoreSorts.{written_in, FitsScope, GoodSort}
use Rattle.hs_soundness.proofs.CoreExpressions.{accepted_good}
use Rattle.hs_soundness.proofs.Growing.{scope_more}
use Rattle.hs_progress.specs.CoreTyping.{CoreAllHave, no_more, one_more, Does, does_return, does_throw, does_let, does_if, does_maybe, does_either, does_list, does_pair, does_call, does_perform}
use Rattle.hs_progress.specs.TypedStates.{ctx_of, Runs, PartTyped, do_typed, TermTyped, ThreadTyped, has}
use Rattle.hs_progress.specs.Evaluated.{of_script, evaluated, HaveSorts, MayEvaluate, AllAnswer}
use Rattle.hs_progress.proofs.Heads.{heads_kept}
use Rattle.hs_progress.proofs.Moves.{KeepsTyped, locals_go}
use Rattle.hs_progress.proofs.Entries.{runs_are_typed}

module _ (c : typing.Ctx) where
  all_have : {g : List SortedName} {es : List CoreEx} {ks : List Sort} → CoreAllHave c g es ks → HaveSorts c g es
  all_have no_more = tt
  all_have (one_more {k} h hs) = ((k, h), all_have hs)

  args_have : (g : List SortedName) (es : Exs) (ts : List T) → WellAll es → typing.HaveTypes c (written_in g) es ts → HaveSorts c g (of_script es)
  args_have g none ts w h = tt
  args_have g (more e es) ts w h = ((a_value h.0, (h.0, w.0, h.2, refl)), args_have g es h.1 w.1 h.3)

  does_have : {g : List SortedName} {a : Core} {k : Sort} → Does c g a k → HaveSorts c g (evaluated a)
  does_have (does_return {k} h) = ((k, h), tt)
  does_have (does_throw h) = ((_, h), tt)
  does_have (does_let {j} p h d) = ((j, h), tt)
  does_have (does_if h d w) = ((_, h), tt)
  does_have (does_maybe p h d w) = ((_, h), tt)
  does_have (does_either p q h d w) = ((_, h), tt)
  does_have (does_list p q h d w) = ((_, h), tt)
  does_have (does_pair p q h d) = ((_, h), tt)
  does_have {g} (does_call {es} sig e w l h) = args_have g es sig.params l h
  does_have (does_perform p h) = all_have h
  does_have _ = tt

runs_evaluate : (cells : ℕ → T → Type 0) (ds : List Fn) (a : Core) (env : Env) (k : Sort) → Runs cells ds a env k → MayEvaluate ds a env
runs_evaluate cells ds a env k r = record {
  here = r.here;
  scope = r.scope;
  sorts = does_have (ctx_of ds r.here) r.does;
  fits = scope_more cells any_cell (λ m t q. tt) r.scope env r.fits;
}

part_evaluates : (cells : ℕ → T → Type 0) (ds : List Fn) (a : Core) (env : Env) (k : Sort) → PartTyped cells ds (Do a env) k → MayEvaluate ds a env
part_evaluates cells ds a env k (do_typed r) = runs_evaluate cells ds a env k r

-- at every moment of a thread's local rules, from a state of a run
pub runs_may_evaluate : (script : Script) → Accepted script → (es : List Entry) (u : State) → IsRun (script_of script) es u → (t : ℕ) (th : Thread) → slice_get u.threads t ≡ Some th → (k : ℕ) (x : Term) → locals (code_of (script_of script)) k th.term ≡ Some x
    → (a : Core) (env : Env) → x.part ≡ Do a env → MayEvaluate (script_of script) a env
runs_may_evaluate script accepted es u r t th is k x l a env p =
    let d = runs_are_typed script accepted es u r in
    let h : ThreadTyped (has d.store) (script_of script) (d.store.sorts t) (Some th) = subst (ThreadTyped (has d.store) (script_of script) (d.store.sorts t)) is (d.sound.threads t) in
    let y : TermTyped (has d.store) (script_of script) x =
    subst (KeepsTyped (has d.store) script accepted (heads_kept script accepted)) l
    (locals_go (has d.store) script accepted (heads_kept script accepted) k th.term (record { sort = d.store.sorts t; part = h.0; frames = h.1 })) in
    part_evaluates (has d.store) (script_of script) a env y.sort (subst (λ q. PartTyped (has d.store) (script_of script) q y.sort) p y.part)

-- ---- never nothing

not_stuck : (k : Sort) (o : Outcome) → GoodSort any_cell k o → o ≢ Stuck
not_stuck k (Gives v) h e = cc e
not_stuck k (Throws x) h e = cc e
not_stuck k Stuck h e = h

all_answer : (script : Script) → Accepted script → (here : ℕ) (g : List SortedName) (env : Env) → FitsScope any_cell g env → (es : List CoreEx) → HaveSorts (ctx_of (script_of script) here) g es → AllAnswer (functions_of (script_of script)) env es
all_answer script accepted here g env f [] h = tt
all_answer script accepted here g env f (e ∷ es) h = (
  not_stuck h.0.0 (value_of_core (functions_of (script_of script)) env e) (accepted_good any_cell script here g env e h.0.0 accepted h.0.1 f),
  all_answer script accepted here g env f es h.1,
)

pub answers : (script : Script) → Accepted script → (a : Core) (env : Env) → MayEvaluate (script_of script) a env → AllAnswer (functions_of (script_of script)) env (evaluated a)
answers script accepted a env m = all_answer script accepted m.here m.scope env m.fits (evaluated a) m.sorts
