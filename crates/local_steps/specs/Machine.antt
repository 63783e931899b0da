-- What active parts and frames of a code stand for: terms with slots (own).
use Rattle.std.specs.Prelude.{ℕ, List, [], ◌∷◌, Option, Some, None, take}
use Rattle.rules_meaning.specs.Values.{value_of, values_of}
use Rattle.rules_code.specs.declared.act.Act.{Act}
use Rattle.rules_code.specs.declared.act.ActId.{ActId}
use Rattle.rules_code.specs.declared.code.CodeBody.{CodeBody}
use Rattle.rules_code.specs.Slots.{trees}
use Rattle.rules_code.specs.CodeTrees.{Sa, act_decode, act_in, act_trees, act_tree_at, SlottedFunction, functions_at}
use Rattle.slot_laws.specs.SlotRules.{calls, forks, forks_unmask, SlotPart, ret, throw, doing, performs, SlotFrame, bind_to, then_to, catch_by, mask_in, SlotTerm, at}
use Rattle.local_steps.specs.declared.active.Active.{Active}
use Rattle.local_steps.specs.declared.active.Active.TheVariants as a
use Rattle.local_steps.specs.declared.active.Frame.{Frame}
use Rattle.local_steps.specs.declared.active.Frame.TheVariants as f
use Rattle.local_steps.specs.declared.active.StepResult.{StepResult}
use Rattle.local_steps.specs.declared.active.StepResult.TheVariants as n

-- the action functions of a code
abbrev pub funs_of : CodeBody → List SlottedFunction
funs_of b = functions_at b.nodes b.acts b.funs

-- the action of a number
abbrev pub act_of : CodeBody → ActId → Sa
act_of b i = act_tree_at b.nodes b.acts i

-- a part of the action with the number `above`: its number is lower
abbrev pub below_of : CodeBody → ℕ → ActId → Sa
below_of b above i = act_in (take above (act_trees b.nodes b.acts)) i

-- an action with the number `above`, as it stands over those with lower numbers
abbrev pub decoded_above : CodeBody → ℕ → Act → Sa
decoded_above b above k = act_decode (trees b.nodes) (take above (act_trees b.nodes b.acts)) k

abbrev pub active_of : CodeBody → Active → SlotPart
active_of b (a.Doing i vs) = doing (act_of b i) (values_of vs)
active_of b (a.Ret v) = ret (value_of v)
active_of b (a.Throw e) = throw e
active_of b (a.Asks p vs) = performs (calls p (values_of vs))
active_of b (a.Forks i vs) = performs (forks (act_of b i) (values_of vs))
active_of b (a.ForksUnmask i vs) = performs (forks_unmask (act_of b i) (values_of vs))

abbrev pub frame_of : CodeBody → Frame → SlotFrame
frame_of b (f.Bind i vs) = bind_to (act_of b i) (values_of vs)
frame_of b (f.Then i vs) = then_to (act_of b i) (values_of vs)
frame_of b (f.Catch i vs) = catch_by (act_of b i) (values_of vs)
frame_of b (f.Mask m) = mask_in m.inside

-- the innermost first
abbrev pub frames_of : CodeBody → List Frame → List SlotFrame
frames_of b [] = []
frames_of b (f ∷ fs) = frame_of b f ∷ frames_of b fs

-- what follows a step, over these frames
abbrev pub next_of : CodeBody → StepResult → List Frame → Option SlotTerm
next_of b (n.To p) fs = Some (at (active_of b p) (frames_of b fs))
next_of b n.Stuck fs = None

-- the same of a step that leaves the frames alone
abbrev pub alone_of : CodeBody → StepResult → Option SlotTerm
alone_of b (n.To p) = Some (at (active_of b p) [])
alone_of b n.Stuck = None
