-- The first world stands for the first state of a run.
use Rattle.std.proofs.Common.{◌≡◌, [], ◌∷◌, false, sym, ap, ◌∙◌, subst}
use Rattle.std.proofs.Math.Logic.{∥∥₁_map}
use Rattle.rules_expansion.specs.trees.Programs.{script_of}
use Rattle.rules_typing.specs.TypingScripts.{Accepted}
use Rattle.rules_code.specs.declared.code.CodeBody.{CodeBody}
use Rattle.rules_code.specs.CodeTrees.{Sa, StandsFor}
use Rattle.slot_laws.specs.SlotRules.{doing, at}
use Rattle.slot_states.specs.SlotStates.{SlotState, Represents}
use Rattle.slot_states.proofs.AtRest.{first_stands_for}
use Rattle.world_entries.specs.declared.world.World.{World}
use Rattle.world_entries.specs.Worlds.{state_of, Live, IsLive}
use Rattle.world_entries.specs.First.{first_state}

-- the first state with this action of main
abbrev begun : Sa → SlotState
begun a = record { threads = record { term = at (doing a []) []; blocked = false; finished = false } ∷ []; cells = []; flight = []; sleepers = []; clock = 0; next_instance = 0; next_timeout = 0; printed = 0 }

pub first_live : (b : CodeBody) (w : World) → Accepted b.of.value → StandsFor b.nodes b.acts b.funs b.main b.of.value → state_of b w ≡ first_state b → Live b [] w
first_live b w accepted stands e =
    let f = first_stands_for b.of.value accepted in
    record { accepted = accepted; code = stands; state = f.0; run = f.1; represents = subst (λ x. Represents (script_of b.of.value) x f.0) (sym (e ∙ ap begun stands.main_is)) f.2 }

-- the code itself keeps that it stands for its script
pub first_is_live : (b : CodeBody) (w : World) → state_of b w ≡ first_state b → IsLive w
first_is_live b w e = ∥∥₁_map b.stands (λ k. (b, [], first_live b w k.accepted k e))
