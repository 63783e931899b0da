-- Ranks along the edges of a search are ranks of the states of the rules for which its states stand.
use Rattle.std.proofs.Common.{◌≡◌, ◌≤◌, ◌+◌, ℕ, List, [], ◌∷◌, length, Option, Some, refl, sym, ap, ◌∙◌, subst, arith, inl, inr}
use Rattle.std.proofs.lemmas.Option.{same_Some}
use Rattle.hs_base.specs.declared.clock_choice.ClockChoice.{ClockChoice}
use Rattle.hs_base.specs.declared.limits.Limits.{Limits}
use Rattle.hs_base.specs.declared.tree.script.Script.{Script}
use Rattle.hs_rules.specs.declared.entry.Entry.{Entry}
use Rattle.rules_expansion.specs.trees.Programs.{Fn, script_of}
use Rattle.rules_meaning.specs.CoreMeaning.{Code, code_of}
use Rattle.rules_typing.specs.TypingScripts.{Accepted}
use Rattle.rules_code.specs.CodeTrees.{SlottedFunction, code_trees}
use Rattle.hs_rules.specs.State.{State}
use Rattle.hs_rules.specs.Runs.{first_of}
use Rattle.outcome_laws.specs.timing.WithoutTime.{without_ticks}
use Rattle.outcome_laws.specs.Timings.{MayTick, TimedRun, IsEndless}
use Rattle.outcome_laws.proofs.Going.{bound_ends}
use Rattle.outcome_laws.specs.reduction.EagerRules.{EagerSteps}
use Rattle.outcome_laws.specs.reduction.Paths as paths
use Rattle.outcome_laws.specs.reduction.Paths.{IsTaken}
use Rattle.outcome_laws.proofs.reduction_lemmas.Closed.{clock_stable, ranks_bound}
use Rattle.outcome_laws.proofs.reduction_lemmas.Ranks.{at_most_one}
use Rattle.slot_states.specs.SlotStates.{SlotState}
use Rattle.search_laws.specs.Shown.{Shown, IsFirst}
use Rattle.search_laws.specs.Found.{Edge, AreTrueEdges, AreGone}
use Rattle.search_laws.proofs.Following.{Follows, Visited, tick_or, follow, stays, begun}
use Rattle.search_laws.specs.ends.Rounds.{HaveBound, RanksFall}

module _ (script : Script) (accepted : Accepted script) (clock : ClockChoice) (limits : Limits) (first : SlotState) (states : List Shown) (edges : List Edge) where
  abbrev ds : List Fn
  ds = script_of script

  abbrev code : Code
  code = code_of ds

  abbrev funs : List SlottedFunction
  funs = code_trees ds

  -- a state of the search with this rank stands for it
  abbrev Ranked : (ℕ → Option ℕ) → State → ℕ → Type 0
  Ranked rank s n = (v : Visited clock ds states s) × (rank v.number ≡ Some n)

  module _ (begins : IsFirst ds first) (gone : AreGone clock funs limits first states edges) (true_edges : AreTrueEdges clock funs limits states edges) (rank : ℕ → Option ℕ) (fall : RanksFall edges rank) where
    -- where a taken entry leads
    abbrev On : ℕ → Entry → State → Type 0
    On n e u = (r : State) × (k : ℕ) × (m : ℕ) × EagerSteps code k u r × Ranked rank r m × (length (without_ticks (e ∷ [])) + (k + m) ≤ n)

    along : (s : State) (n : ℕ) (a : Ranked rank s n) (e : Entry) (u : State) → Follows clock ds states edges a.0.number u → On n e u
    along s n a e u f = let m = fall f.place f.edge f.is n (ap rank f.from ∙ a.1) in (f.state, f.edge.eager, m.0, f.eager, (f.visited, ap rank f.to ∙ m.1), omega (arith, at_most_one e, m.2))

    ranks_fall : paths.RanksFall code (MayTick clock code) (Ranked rank)
    ranks_fall s n a e u t l =
        elim (tick_or clock e) as (λ _. On n e u) [
          | inl q ↦ (u, 0, n, refl, (stays script accepted clock states s u a.0 e l q, a.1), subst (λ z. length (without_ticks (z ∷ [])) + (0 + n) ≤ n) (sym q.2) (omega arith))
          | inr plain ↦ along s n a e u (let v = a.0 in follow script accepted clock limits v.entries s v.run v.shown v.stands e u l plain first states edges gone true_edges v.number v.is t)
        ]

    pub bounded : (n : ℕ) → rank 0 ≡ Some n → HaveBound clock ds
    bounded n is =
        let b = begun script accepted clock limits first states edges begins gone in (
          length gone.source.locals + n,
          λ s u es f run.
              ranks_bound code (MayTick clock code) (clock_stable clock code) (Ranked rank) ranks_fall (length gone.source.locals) n begins.0 b.0 b.1 (b.2, is) es u
              (subst (λ z. TimedRun clock code z es u) (same_Some s begins.0 (sym f ∙ first_is)) run),
        )
      where
        first_is : first_of ds ≡ Some begins.0
        first_is = begins.1.1 ∙ ap Some begins.1.2

    pub not_endless : (n : ℕ) → rank 0 ≡ Some n → ¬ IsEndless clock ds
    not_endless n is = let b = bounded n is in bound_ends clock ds b.0 b.1
