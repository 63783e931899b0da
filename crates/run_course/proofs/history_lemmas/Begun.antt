-- A run that hasn't begun.
use Rattle.std.proofs.Common.{◌≡◌, ◌≤◌, [], ◌∷◌, false, sym, ap, ◌∙◌, subst, arith}
use Rattle.std.proofs.Math.Logic.{∥∥₁_map}
use Rattle.hs_base.specs.declared.limits.Limits.{Limits}
use Rattle.hs_rules.specs.declared.entry.LimitKind.TheVariants as limit
use Rattle.rules_expansion.specs.trees.Programs.{script_of}
use Rattle.rules_code.specs.declared.code.CodeBody.{CodeBody}
use Rattle.rules_code.specs.CodeTrees.{Sa, StandsFor}
use Rattle.hs_rules.specs.State.{State}
use Rattle.hs_rules.specs.Endings.{IsWithin}
use Rattle.hs_laws.specs.HistoryEndings.{StaysWithin}
use Rattle.hs_laws.proofs.RunParts.{same_after}
use Rattle.hs_laws.proofs.HowItEnds.{within_begins}
use Rattle.slot_laws.specs.SlotRules.{doing, at}
use Rattle.slot_states.specs.SlotStates.{SlotState, Represents}
use Rattle.slot_states.specs.Resting.{used}
use Rattle.slot_states.proofs.AtRest.{first_stands_for, same_used}
use Rattle.local_steps.specs.Machine.{act_of}
use Rattle.world_entries.specs.declared.world.World.{World}
use Rattle.world_entries.specs.Worlds.{state_of, Live}

-- main alone is to do this action
abbrev pub first_by : Sa → SlotState
first_by a = record {
  threads = record { term = at (doing a []) []; blocked = false; finished = false } ∷ [];
  cells = [];
  flight = [];
  sleepers = [];
  clock = 0;
  next_instance = 0;
  next_timeout = 0;
  printed = 0;
}

module _ (b : CodeBody) (w : World) (first : state_of b w ≡ first_by (act_of b b.main)) where
  begins : StandsFor b.nodes b.acts b.funs b.main b.of.value → Live b [] w
  begins stands =
      let k = first_stands_for b.of.value stands.accepted in
      record {
        accepted = stands.accepted;
        code = stands;
        state = k.0;
        run = k.1;
        represents = subst (λ x. Represents (script_of b.of.value) x k.0) (sym (first ∙ ap first_by stands.main_is)) k.2;
      }

  pub live_begins : ∥ Live b [] w ∥₁
  live_begins = ∥∥₁_map b.stands begins

  within_all : (limits : Limits) → 1 ≤ limits.threads → (s : State) → Represents (script_of b.of.value) (state_of b w) s → IsWithin limits s
  within_all limits one s r limit.Threads over = let e = same_used (script_of b.of.value) (state_of b w) s r limit.Threads ∙ ap (used limit.Threads) first in omega (arith, e, over, one)
  within_all limits one s r limit.Cells over = let e = same_used (script_of b.of.value) (state_of b w) s r limit.Cells ∙ ap (used limit.Cells) first in omega (arith, e, over)
  within_all limits one s r limit.Frames over = let e = same_used (script_of b.of.value) (state_of b w) s r limit.Frames ∙ ap (used limit.Frames) first in omega (arith, e, over)
  within_all limits one s r limit.Output over = let e = same_used (script_of b.of.value) (state_of b w) s r limit.Output ∙ ap (used limit.Output) first in omega (arith, e, over)

  pub within_begun : (limits : Limits) → 1 ≤ limits.threads → ∥ StaysWithin limits (script_of b.of.value) [] ∥₁
  within_begun limits one =
      ∥∥₁_map b.stands (λ stands.
      let live = begins stands in
      within_begins limits (script_of b.of.value)
      (λ s a. subst (IsWithin limits) (same_after (script_of b.of.value) [] live.state s live.run a) (within_all limits one live.state live.represents)))
