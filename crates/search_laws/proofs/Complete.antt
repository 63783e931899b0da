-- A search that has gone on from each of its states has each outcome.
use Rattle.std.proofs.Common.{◌≡◌, zero, List, Some, refl, ap, ◌∙◌, inl, inr, length}
use Rattle.hs_base.specs.declared.clock_choice.ClockChoice.{ClockChoice}
use Rattle.hs_base.specs.declared.limits.Limits.{Limits}
use Rattle.hs_base.specs.declared.tree.script.Script.{Script}
use Rattle.rules_expansion.specs.trees.Programs.{Fn, script_of}
use Rattle.rules_meaning.specs.CoreMeaning.{Code, code_of}
use Rattle.rules_typing.specs.TypingScripts.{Accepted}
use Rattle.rules_code.specs.CodeTrees.{SlottedFunction, code_trees}
use Rattle.hs_rules.specs.Runs.{first_of}
use Rattle.outcome_laws.specs.Timings.{MayTick}
use Rattle.outcome_laws.specs.Outcomes.{Outcome, IsOutcomeOf}
use Rattle.outcome_laws.specs.reduction.Paths.{IsClosed}
use Rattle.outcome_laws.proofs.reduction_lemmas.Closed.{script_outcome}
use Rattle.slot_states.specs.SlotStates.{SlotState}
use Rattle.search_laws.specs.Shown.{Shown, IsFirst}
use Rattle.search_laws.specs.Found.{Edge, AreTrueEdges, AreGone, IsSeen}
use Rattle.search_laws.proofs.Following.{Visited, tick_or, follow, stays, begun}

module _ (clock : ClockChoice) (script : Script) (accepted : Accepted script) (limits : Limits) (first : SlotState) (is : IsFirst (script_of script) first)
    (states : List Shown) (edges : List Edge) (gone : AreGone clock (code_trees (script_of script)) limits first states edges) (true_edges : AreTrueEdges clock (code_trees (script_of script)) limits states edges) where
  abbrev ds : List Fn
  ds = script_of script

  abbrev code : Code
  code = code_of ds

  abbrev funs : List SlottedFunction
  funs = code_trees ds

  closed : IsClosed code (MayTick clock code) (Visited clock ds states)
  closed s v e u t l =
      elim (tick_or clock e) [
        | inl k ↦ (u, zero, refl, stays script accepted clock states s u v e l k)
        | inr plain ↦ let f = follow script accepted clock limits v.entries s v.run v.shown v.stands e u l plain first states edges gone true_edges v.number v.is t in (f.state, f.edge.eager, f.eager, f.visited)
      ]

  first_state : first_of ds ≡ Some is.0
  first_state = is.1.1 ∙ ap Some is.1.2

  -- each outcome is that of a state
  pub seen : (o : Outcome) → IsOutcomeOf clock ds o → IsSeen clock ds states o
  seen o h =
      let b = begun script accepted clock limits first states edges is gone in
      let k = script_outcome clock ds (Visited clock ds states) closed (length gone.source.locals) is.0 b.0 first_state b.1 b.2 o h in
      record { number = k.1.number; state = k.1.shown; is = k.1.is; entries = k.1.entries; reached = k.0; run = k.1.run; stands = k.1.stands; shows = k.2 }
