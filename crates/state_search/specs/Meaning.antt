-- What a search in numbers has found, in the words of `search_laws` (own).
use Rattle.std.specs.Prelude.{List, map, Option, Some, None}
use Rattle.rules_code.specs.declared.code.CodeBody.{CodeBody}
use Rattle.outcome_laws.specs.Outcomes as laws
use Rattle.outcome_listing.specs.declared.explored.Final.{Final}
use Rattle.outcome_listing.specs.Finals.{final_of}
use Rattle.slot_states.specs.SlotStates.{SlotState}
use Rattle.local_steps.specs.Machine.{act_of}
use Rattle.number_states.specs.declared.state.NumberState.{NumberState}
use Rattle.number_states.specs.Stocks.{Stock, text_at}
use Rattle.number_states.specs.States.{slots, first_slots}
use Rattle.search_laws.specs.Shown.{Shown}
use Rattle.search_laws.specs.Found.{Source, Edge}
use Rattle.state_search.specs.declared.found.Found.{Found}
use Rattle.state_search.specs.declared.found.Move.{Move}
use Rattle.state_search.specs.declared.found.Origin.{Origin}

-- what a state in numbers shows
abbrev pub shown : Stock → CodeBody → NumberState → Shown
shown g b n = record { slots = slots g b n; output = text_at g n.output; errors = text_at g n.errors }

abbrev pub source_of : Origin → Source
source_of o = record { parent = o.parent; entry = o.entry; locals = o.rest.items; steps = o.steps }

abbrev pub edge_of : Move → Edge
edge_of m = record { from = m.from; entry = m.entry; to = m.to; eager = m.eager }

abbrev pub kind_of : Option Final → Option laws.Final
kind_of None = None
kind_of (Some f) = Some (final_of f)

-- its states, where each came from, the moves between them, and how each has ended
abbrev pub states_of : CodeBody → Found → List Shown
states_of b f = map (shown f.numbers b) f.states

abbrev pub sources_of : Found → List Source
sources_of f = map source_of f.origins.items

abbrev pub edges_of : Found → List Edge
edges_of f = map edge_of f.moves.items

abbrev pub kinds_of : Found → List (Option laws.Final)
kinds_of f = map kind_of f.kinds.items

-- the state with slots that a run of this code begins with
abbrev pub begun : CodeBody → SlotState
begun b = first_slots (act_of b b.main)
