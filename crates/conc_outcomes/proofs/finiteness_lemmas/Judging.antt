-- Ranks and rounds of the moves of a search say what they say of the script.
use Rattle.std.proofs.Common.{◌≡◌, ℕ, List, [], ◌∷◌, length, Some, slice_get, sym, ap, ◌∙◌, subst, arith}
use Rattle.std.proofs.lemmas.Option.{slice_get_within}
use Rattle.std.proofs.lemmas.List.{length-map}
use Rattle.std.specs.Prelude.{Result, Ok, Err, IfOk}
use Rattle.hs_base.specs.declared.no_memory.NoMemory.{NoMemory}
use Rattle.hs_base.specs.declared.tree.script.Script.{Script}
use Rattle.rules_expansion.specs.trees.Programs.{Fn, script_of}
use Rattle.rules_code.specs.declared.code.CodeBody.{CodeBody}
use Rattle.rules_code.specs.CodeTrees.{SlottedFunction, code_trees}
use Rattle.outcome_laws.specs.Timings.{IsEndless}
use Rattle.outcome_listing.specs.declared.bounds.Bounds.{Bounds}
use Rattle.slot_states.specs.SlotStates.{Represents}
use Rattle.slot_states.proofs.AtRest.{first_stands_for}
use Rattle.number_states.specs.States.{first_slots}
use Rattle.search_laws.specs.Shown.{Shown, IsFirst}
use Rattle.search_laws.specs.Found.{AreTrueEdges, AreGone}
use Rattle.search_laws.specs.ends.Rounds.{HaveBound, IsRound}
use Rattle.search_laws.proofs.ends_lemmas.Bounds.{bounded, not_endless}
use Rattle.search_laws.proofs.ends_lemmas.Going.{goes_for_ever}
use Rattle.search_laws.proofs.ends_lemmas.Rounding.{round_works}
use Rattle.state_search.specs.declared.found.Found.{Found}
use Rattle.state_search.specs.Meaning.{states_of, edges_of, shown, begun}
use Rattle.state_search.specs.Searching.{Searched, IsClosed, IsCodeOf, AreReached}
use Rattle.conc_outcomes.specs.declared.finiteness.marks.Ends.{Ends}
use Rattle.conc_outcomes.specs.declared.finiteness.marks.Ends.TheVariants.{Never, Round}
use Rattle.conc_outcomes.specs.finiteness.Walks.{AreWithin, HaveRanks, Judges}
use Rattle.conc_outcomes.specs.finiteness.Ending.{IsRightOf}

-- each move leads between states that there are
pub moves_within : (bounds : Bounds) (b : CodeBody) (f : Found) → Searched bounds b f → AreWithin (length f.states) (edges_of f)
moves_within bounds b f found p g is =
    let t = found.edges p g is in
    let many = length-map f.states (shown f.numbers b) in
    let from = slice_get_within (states_of b f) g.from t.state t.is in
    let to = slice_get_within (states_of b f) g.to t.other t.there in
    (omega (arith, from, many), omega (arith, to, many))

module _ (bounds : Bounds) (b : CodeBody) (script : Script) (f : Found) (found : Searched bounds b f) (code : IsCodeOf b script) where
  abbrev ds : List Fn
  ds = script_of script

  abbrev funs : List SlottedFunction
  funs = code_trees ds

  edges_here : AreTrueEdges bounds.clock funs bounds.limits (states_of b f) (edges_of f)
  edges_here = subst (λ z. AreTrueEdges bounds.clock z bounds.limits (states_of b f) (edges_of f)) code.1.functions found.edges

  first : IsFirst ds (begun b)
  first = let h = first_stands_for script code.0 in (h.0, h.1, subst (λ tree. Represents ds (first_slots tree) h.0) (sym code.1.main_is) h.2)

  never : IsClosed bounds b f → HaveRanks (edges_of f) → HaveBound bounds.clock ds × ¬ IsEndless bounds.clock ds
  never closed r =
      let gone : AreGone bounds.clock funs bounds.limits (begun b) (states_of b f) (edges_of f) =
      subst (λ z. AreGone bounds.clock z bounds.limits (begun b) (states_of b f) (edges_of f)) code.1.functions closed.gone in (
        bounded script code.0 bounds.clock bounds.limits (begun b) (states_of b f) (edges_of f) first gone edges_here r.0 r.1 r.2 r.3,
        not_endless script code.0 bounds.clock bounds.limits (begun b) (states_of b f) (edges_of f) first gone edges_here r.0 r.1 r.2 r.3,
      )

  ever : AreReached bounds script b f → (at : ℕ) (places : List ℕ) → IsRound (edges_of f) at places → (c : Shown) → slice_get (states_of b f) at ≡ Some c → IsEndless bounds.clock ds
  ever reached at places h c is =
      let r = reached at c is in
      goes_for_ever script code.0 bounds.limits bounds.clock (states_of b f) (edges_of f) edges_here at places h.1 (round_works funs bounds.clock bounds.limits (states_of b f) (edges_of f) edges_here at places h) c is r.origin.steps r.arrives

-- a round begins at a state that there is
begins_there : (bounds : Bounds) (b : CodeBody) (f : Found) → Searched bounds b f → (at : ℕ) (places : List ℕ) → IsRound (edges_of f) at places → (c : Shown) × (slice_get (states_of b f) at ≡ Some c)
begins_there bounds b f found at [] h = absurd (omega (arith, h.0))
begins_there bounds b f found at (p ∷ ps) h = let t = found.edges p h.1.0 h.1.1 in (t.state, ap (slice_get (states_of b f)) (sym h.1.2) ∙ t.is)

pub right : (f : Found) (e : Ends) → Judges (edges_of f) e → IsRightOf f e
right f Never j = λ bounds b script found closed code. never bounds b script f found code closed j
right f (Round at moves) j =
    (j, λ bounds b script found reached code. let c = begins_there bounds b f found at moves.items j in ever bounds b script f found code reached at moves.items j c.0 c.1)

-- the answer, if there is one, is right of the moves as they stand in what was found
pub right_of_all : (f : Found) (r : Result Ends NoMemory) → IfOk r (λ e. Judges (edges_of f) e) → IfOk r (λ e. IsRightOf f e)
right_of_all f (Ok e) h = right f e h
right_of_all f (Err e) h = tt
