-- The local rules on actions with slots in place of names (own).
--
-- Each is the rule of the same name in `hs_rules/specs/LocalRules`, where its source stands, with values of slots in place
-- of an environment of names. A term is an active part in its frames. The tree of an action is what its number in a code
-- stands for, so a step needs no numbers. What stands below the frames is given by its masking state alone, so a step of a
-- part is a step in every context with that state.
use Rattle.std.specs.Prelude.{ℕ, zero, suc, ◌==◌, true, false, cond, List, [], ◌∷◌, ◌++◌, length, Option, Some, None, slice_get}
use Rattle.hs_base.specs.declared.mask.Mask.{Mask}
use Rattle.hs_base.specs.declared.mask.Mask.TheVariants.{Masked, Uninterruptible}
use Rattle.hs_base.specs.declared.exn.Exn.{Exn}
use Rattle.hs_base.specs.Masks.{join_of}
use Rattle.rules_meaning.specs.Values as v
use Rattle.rules_meaning.specs.Values.{V, Outcome, Gives, Throws, Stuck, Outcomes, AllGive, OneThrows, OneStuck}
use Rattle.rules_expansion.specs.declared.primitive.Primitive.{Primitive}
use Rattle.rules_code.specs.Slots.{run, run_all}
use Rattle.rules_code.specs.CodeTrees.{Sa, a_return, a_throw, a_let, a_bind, a_then, a_if, a_maybe, a_either, a_list, a_pair, a_call, a_perform, a_fork, a_fork_unmask, a_catch, a_mask, a_mask_hard, a_restore, a_bad, SlottedFunction}

-- ---- terms

-- what only an Op performs
pub data SlotOp : Type 0 where
  calls : Primitive → List V → SlotOp
  forks : Sa → List V → SlotOp
  -- the next slot takes the unmasked state
  forks_unmask : Sa → List V → SlotOp

pub data SlotPart : Type 0 where
  ret : V → SlotPart
  throw : Exn → SlotPart
  -- the thread is to do this action, with these values of its slots
  doing : Sa → List V → SlotPart
  performs : SlotOp → SlotPart

pub data SlotFrame : Type 0 where
  -- the value takes the next slot of this action
  bind_to : Sa → List V → SlotFrame
  -- this action follows, and the value takes no slot
  then_to : Sa → List V → SlotFrame
  -- an exception takes the next slot of this handler
  catch_by : Sa → List V → SlotFrame
  -- inside, this is the masking state
  mask_in : Mask → SlotFrame

pub record SlotTerm : Type 0 where
  pub part : SlotPart
  -- the innermost first
  pub frames : List SlotFrame

abbrev pub at : SlotPart → List SlotFrame → SlotTerm
at p fs = record { part = p; frames = fs }

-- the masking state inside these frames, where it is s below them
abbrev pub mask_from : Mask → List SlotFrame → Mask
mask_from s [] = s
mask_from s (bind_to a vs ∷ fs) = mask_from s fs
mask_from s (then_to a vs ∷ fs) = mask_from s fs
mask_from s (catch_by a vs ∷ fs) = mask_from s fs
mask_from s (mask_in m ∷ fs) = m

-- ---- an expression, and what is done with its value

-- a part without frames of its own
abbrev pub just_part : SlotPart → Option SlotTerm
just_part p = Some (at p [])

-- an expression's exception is thrown in its action's place
abbrev pub on_value : Outcome → (V → Option SlotTerm) → Option SlotTerm
on_value (Gives u) k = k u
on_value (Throws e) k = just_part (throw e)
on_value Stuck k = None

abbrev pub on_values : Outcomes → (List V → Option SlotTerm) → Option SlotTerm
on_values (AllGive us) k = k us
on_values (OneThrows e) k = just_part (throw e)
on_values OneStuck k = None

-- what `throwIO` throws
abbrev pub thrown : V → Option SlotTerm
thrown (v.Exception e) = just_part (throw e)
thrown _ = None

-- the arm that a value chooses, with what it binds in the next slots
abbrev pub chosen : Sa → Sa → List V → V → Option SlotTerm
chosen a b vs (v.Truth true) = just_part (doing a vs)
chosen a b vs (v.Truth false) = just_part (doing b vs)
chosen a b vs _ = None

abbrev pub chosen_maybe : Sa → Sa → List V → V → Option SlotTerm
chosen_maybe a b vs v.Nothing = just_part (doing a vs)
chosen_maybe a b vs (v.Just u) = just_part (doing b (vs ++ u ∷ []))
chosen_maybe a b vs _ = None

abbrev pub chosen_either : Sa → Sa → List V → V → Option SlotTerm
chosen_either a b vs (v.Left u) = just_part (doing a (vs ++ u ∷ []))
chosen_either a b vs (v.Right u) = just_part (doing b (vs ++ u ∷ []))
chosen_either a b vs _ = None

abbrev pub chosen_list : Sa → Sa → List V → V → Option SlotTerm
chosen_list a b vs v.Nil = just_part (doing a vs)
chosen_list a b vs (v.Cons u w) = just_part (doing b ((vs ++ u ∷ []) ++ w ∷ []))
chosen_list a b vs _ = None

abbrev pub chosen_pair : Sa → List V → V → Option SlotTerm
chosen_pair a vs (v.Pair u w) = just_part (doing a ((vs ++ u ∷ []) ++ w ∷ []))
chosen_pair a vs _ = None

-- the body of a function, in its parameters' values: as many as there are parameters
abbrev pub called : Option SlottedFunction → List V → Option SlotTerm
called None us = None
called (Some f) us = cond (f.params == length us) (just_part (doing f.body us)) None

-- the state that a masking name stands for
abbrev pub restored : Sa → List V → Option V → Option SlotTerm
restored a vs (Some (v.Restore m)) = Some (at (doing a vs) (mask_in m ∷ []))
restored a vs _ = None

-- ---- an action's first step, where the masking state is s: return to restore

abbrev pub first_step : List SlottedFunction → Mask → Sa → List V → Option SlotTerm
-- return: the value of an expression
first_step funs s (a_return e) vs = on_value (run e vs) (λ u. just_part (ret u))
-- throw: an exception
first_step funs s (a_throw e) vs = on_value (run e vs) thrown
-- let: a value in the next slot
first_step funs s (a_let e a) vs = on_value (run e vs) (λ u. just_part (doing a (vs ++ u ∷ [])))
-- bind: an action, inside a bind to the next
first_step funs s (a_bind a b) vs = Some (at (doing a vs) (bind_to b vs ∷ []))
first_step funs s (a_then a b) vs = Some (at (doing a vs) (then_to b vs ∷ []))
-- choose: the arm of an `if` or a `case`
first_step funs s (a_if e a b) vs = on_value (run e vs) (chosen a b vs)
first_step funs s (a_maybe e a b) vs = on_value (run e vs) (chosen_maybe a b vs)
first_step funs s (a_either e a b) vs = on_value (run e vs) (chosen_either a b vs)
first_step funs s (a_list e a b) vs = on_value (run e vs) (chosen_list a b vs)
first_step funs s (a_pair e a) vs = on_value (run e vs) (chosen_pair a vs)
-- call: the body of an action function, with its arguments in the first slots
first_step funs s (a_call f es) vs = on_values (run_all es vs) (called (slice_get funs f))
-- stand: at a primitive or a fork
first_step funs s (a_perform p es) vs = on_values (run_all es vs) (λ us. just_part (performs (calls p us)))
first_step funs s (a_fork a) vs = just_part (performs (forks a vs))
first_step funs s (a_fork_unmask a) vs = just_part (performs (forks_unmask a vs))
-- catch: an action, inside a catch by its handler
first_step funs s (a_catch a b) vs = Some (at (doing a vs) (catch_by b vs ∷ []))
-- mask: an action, under the later of Masked and s
first_step funs s (a_mask a) vs = Some (at (doing a (vs ++ v.Restore s ∷ [])) (mask_in (join_of Masked s) ∷ []))
-- mask hard: an action, under Uninterruptible
first_step funs s (a_mask_hard a) vs = Some (at (doing a (vs ++ v.Restore s ∷ [])) (mask_in Uninterruptible ∷ []))
-- restore: an action, under the state that a slot holds
first_step funs s (a_restore k a) vs = restored a vs (slice_get vs k)
first_step funs s a_bad vs = None

-- ---- a value or an exception, and the context directly round it: give to escape

abbrev pub ret_step : V → List SlotFrame → Option SlotTerm
ret_step u [] = None
-- give: a value goes to the action behind a bind
ret_step u (bind_to b vs ∷ fs) = Some (at (doing b (vs ++ u ∷ [])) fs)
ret_step u (then_to b vs ∷ fs) = Some (at (doing b vs) fs)
-- keep: a value leaves a catch
ret_step u (catch_by b vs ∷ fs) = Some (at (ret u) fs)
-- leave: a value leaves a masking scope
ret_step u (mask_in m ∷ fs) = Some (at (ret u) fs)

-- where the masking state below the frames is s
abbrev pub throw_step : Mask → Exn → List SlotFrame → Option SlotTerm
throw_step s e [] = None
-- pass: an exception passes a bind
throw_step s e (bind_to b vs ∷ fs) = Some (at (throw e) fs)
throw_step s e (then_to b vs ∷ fs) = Some (at (throw e) fs)
-- handle: a handler gets the exception in the next slot, and runs masked
throw_step s e (catch_by b vs ∷ fs) = Some (at (doing b (vs ++ v.Exception e ∷ [])) (mask_in (join_of Masked (mask_from s fs)) ∷ fs))
-- escape: an exception leaves a masking scope
throw_step s e (mask_in m ∷ fs) = Some (at (throw e) fs)

-- ---- one local rule, and some in turn

-- a term in a context
abbrev pub on_top : List SlotFrame → Option SlotTerm → Option SlotTerm
on_top fs None = None
on_top fs (Some t) = Some (at t.part (t.frames ++ fs))

-- the term after one local rule, where the masking state below its frames is s; or nothing where none applies
abbrev pub local : List SlottedFunction → Mask → SlotPart → List SlotFrame → Option SlotTerm
local funs s (ret u) fs = ret_step u fs
local funs s (throw e) fs = throw_step s e fs
local funs s (doing a vs) fs = on_top fs (first_step funs (mask_from s fs) a vs)
local funs s (performs p) fs = None

abbrev pub on_term : Option SlotTerm → (SlotTerm → Option SlotTerm) → Option SlotTerm
on_term None k = None
on_term (Some t) k = k t

-- the term after this many local rules
abbrev pub locals : List SlottedFunction → Mask → ℕ → SlotTerm → Option SlotTerm
locals funs s zero t = Some t
locals funs s (suc k) t = on_term (local funs s t.part t.frames) (λ u. locals funs s k u)
