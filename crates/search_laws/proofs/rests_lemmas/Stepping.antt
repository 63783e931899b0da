-- An eager move is an eager step of each state that is stood for, and a chain of them a chain.
use Rattle.std.proofs.Common.{◌≡◌, ℕ, zero, suc, List, [], ◌∷◌, ◌++◌, true, Some, refl, sym, ap, ◌∙◌, subst, arith, slice_get, append-nil, append_assoc, inl}
use Rattle.hs_base.specs.declared.tree.script.Script.{Script}
use Rattle.hs_rules.specs.declared.entry.Entry.{Entry}
use Rattle.hs_rules.specs.declared.entry.Entry.TheVariants as entry
use Rattle.rules_expansion.specs.trees.Programs.{Fn, script_of}
use Rattle.rules_meaning.specs.CoreMeaning.{code_of}
use Rattle.rules_typing.specs.TypingScripts.{Accepted}
use Rattle.rules_code.specs.CodeTrees.{code_trees}
use Rattle.hs_rules.specs.State.{State}
use Rattle.hs_rules.specs.Runs.{IsRun}
use Rattle.hs_laws.proofs.RunParts.{run_more}
use Rattle.hs_progress.specs.TypedStates.{has}
use Rattle.outcome_laws.specs.reduction.EagerRules.{thread_is_eager, EagerStep, EagerSteps}
use Rattle.slot_laws.specs.SlotRules.{on_term}
use Rattle.slot_states.specs.SlotStates.{SlotState, Represents}
use Rattle.slot_states.proofs.Reading.{named_of}
use Rattle.slot_states.proofs.Moving.{local_entered}
use Rattle.slot_states.proofs.Printed.{next_adds}
use Rattle.search_laws.specs.rests.Rests.{EagerMove, EagerMoves, AreLocals}
use Rattle.search_laws.proofs.rests_lemmas.EagerAlike.{eager_alike}

-- an eager step by one Local that goes on a run and prints nothing, to a state that y stands for
record Step (ds : List Fn) (es : List Entry) (s : State) (y : SlotState) (t : ℕ) : Type 0 where
  state : State
  eager : EagerStep (code_of ds) s state
  stands : Represents ds y state
  run : IsRun ds (es ++ entry.Local t 1 ∷ []) state
  output : state.output ≡ s.output
  errors : state.errors ≡ s.errors

module _ (script : Script) (accepted : Accepted script) where
  abbrev ds : List Fn
  ds = script_of script

  module _ (x : SlotState) (s : State) (r : Represents ds x s) where
    thread_eager : (y : SlotState) (m : EagerMove (code_trees ds) x y) → thread_is_eager (code_of ds) (slice_get s.threads m.number) ≡ true
    thread_eager y m =
        let n = named_of ds x s r m.number m.thread m.is in
        ap (thread_is_eager (code_of ds)) n.is ∙ (sym (eager_alike (has r.stacks.store) script accepted n.stands.0 n.stands.1) ∙ m.eager)

    move_steps : (es : List Entry) → IsRun ds es s → (y : SlotState) (m : EagerMove (code_trees ds) x y) → Step ds es s y m.number
    move_steps es run y m =
        let once = ap (λ o. on_term o (λ u. Some u)) m.leads in
        let l = local_entered script accepted x m.number 1 m.thread m.term m.is m.unfinished m.free (omega arith) once m.main es s run r in
        let a = next_adds ds x s r (code_of ds) l.0 (entry.Local m.number 1) l.1.0 in
        record {
          state = l.0;
          eager = inl (m.number, record { leads = l.1; eager = inl (thread_eager y m) });
          stands = subst (λ z. Represents ds z l.0) (sym m.moved) l.2;
          run = run_more ds es (entry.Local m.number 1) s l.0 run l.1;
          output = a.0 ∙ append-nil s.output;
          errors = a.1 ∙ append-nil s.errors;
        }

  pub moves_step : (es : List Entry) (s : State) → IsRun ds es s → (x : SlotState) → Represents ds x s → (k : ℕ) (y : SlotState) → EagerMoves (code_trees ds) k x y
      → (u : State) × EagerSteps (code_of ds) k s u × Represents ds y u × (fs : List Entry) × AreLocals fs × IsRun ds (es ++ fs) u × (u.output ≡ s.output) × (u.errors ≡ s.errors)
  moves_step es s run x r zero y h = (s, refl, subst (λ z. Represents ds z s) h r, [], tt, subst (λ z. IsRun ds z s) (sym (append-nil es)) run, refl, refl)
  moves_step es s run x r (suc k) y h =
      let m = h.1 in
      let e : Entry = entry.Local m.number 1 in
      let w = move_steps x s r es run h.0 m in
      let n = moves_step (es ++ e ∷ []) w.state w.run h.0 w.stands k y h.2 in (
        n.0,
        (w.state, w.eager, n.1),
        n.2,
        e ∷ n.3,
        ((m.number, refl), n.4),
        subst (λ z. IsRun ds z n.0) (append_assoc es (e ∷ []) n.3) n.5,
        n.6 ∙ w.output,
        n.7 ∙ w.errors,
      )
