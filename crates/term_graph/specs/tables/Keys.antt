-- The keys of active parts and of frames (own): the first number says the form. What has one key stands for the same in every
-- code.
use Rattle.std.specs.Prelude.{ℕ, List, [], ◌∷◌, ◌++◌}
use Rattle.rules_meaning.specs.Values.{value_of, values_of}
use Rattle.rules_expansion.specs.declared.primitive.Primitive.{Primitive}
use Rattle.rules_expansion.specs.contracts.primitive.Primitive as p
use denote.Enum.Declared.{tag_of}
use Rattle.rules_code.specs.declared.act.ActId.{ActId}
use Rattle.hs_base.specs.declared.value.Value.{Value}
use Rattle.hs_base.specs.declared.value.Value.TheVariants as value
use Rattle.local_steps.specs.declared.active.Active.{Active}
use Rattle.local_steps.specs.declared.active.Active.TheVariants as a
use Rattle.local_steps.specs.declared.active.Frame.{Frame}
use Rattle.local_steps.specs.declared.active.Frame.TheVariants as f
use Rattle.number_tables.specs.value_keys.Keys.{wide_key, mask_number, exn_key, value_key, values_key}

-- the place of a primitive among them, which a cast gives
abbrev pub primitive_number : Primitive → ℕ
primitive_number q = tag_of p.the_type q

-- the number of an action, and the values of its slots
abbrev pub action_key : ActId → List Value → List ℕ
action_key i vs = wide_key i.0 ++ values_key (values_of vs)

abbrev pub part_key : Active → List ℕ
part_key (a.Doing i vs) = 1 ∷ action_key i vs
part_key (a.Ret v) = 2 ∷ value_key (value_of v)
part_key (a.Throw e) = 3 ∷ exn_key e
part_key (a.Asks q vs) = 4 ∷ primitive_number q ∷ values_key (values_of vs)
part_key (a.Forks i vs) = 5 ∷ action_key i vs
part_key (a.ForksUnmask i vs) = 6 ∷ action_key i vs

-- the same with a unit in the next slot, which waits for a value
abbrev pub waiting_key : ActId → List Value → List ℕ
waiting_key i vs = action_key i (vs ++ value.Unit ∷ [])

-- which state is outside of a masking scope is known from the frames round it
abbrev pub frame_key : Frame → List ℕ
frame_key (f.Bind i vs) = 1 ∷ waiting_key i vs
frame_key (f.Then i vs) = 2 ∷ action_key i vs
frame_key (f.Catch i vs) = 3 ∷ waiting_key i vs
frame_key (f.Mask m) = 4 ∷ mask_number m.inside ∷ []
