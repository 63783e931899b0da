-- A primitive whose values are of its types leaves a state.
use Rattle.std.proofs.Common.{◌≡◌, ℕ, ◌==◌, Bool, true, false, cond, List, [], ◌∷◌, Option, Some, None, refl, ap, ◌∙◌, slice_get}
use Rattle.hs_base.specs.declared.mask.Mask.{Mask}
use Rattle.hs_base.specs.declared.exn.Exn.{Exn}
use Rattle.rules_expansion.specs.trees.Trees.{T}
use Rattle.rules_expansion.specs.trees.Programs.{Fn}
use Rattle.rules_meaning.specs.Values as val
use Rattle.rules_meaning.specs.Values.{V, UnitValue, Int, Text, Exception, Inst}
use Rattle.rules_expansion.specs.declared.primitive.Primitive.{Primitive}
use Rattle.rules_expansion.specs.declared.primitive.Primitive.TheVariants.{ThrowTo}
use Rattle.rules_sorts.specs.Sorts.{Sort}
use Rattle.hs_rules.specs.Terms as named
use Rattle.hs_progress.specs.CoreTyping.{Asks, asks_put_str, asks_put_str_ln, asks_h_put_str_ln, asks_new, asks_new_empty, asks_new_scope_cell, asks_take, asks_put, asks_put_end, asks_read, asks_read_end, asks_try_take, asks_try_put, asks_my_thread, asks_masking, asks_clock, asks_delay, asks_throw_to, asks_new_timeout, asks_acquired, asks_release}
use Rattle.hs_progress.specs.TypedStates.{AllOfSorts, no_values, one_value}
use Rattle.slot_laws.specs.SlotRules.{SlotOp, calls, forks, forks_unmask, performs}
use Rattle.slot_laws.specs.Standing.{PartStands, op_stands, calls_stands}
use Rattle.slot_states.specs.SlotStates.{SlotThread, SlotState, answer, throws, throws_at}
use Rattle.slot_states.specs.entering.Operating.{thrown_at, thrown, performed, operated}

-- there is a state
abbrev pub IsThere : Option SlotState → Type 0
IsThere o = (y : SlotState) × (o ≡ Some y)

pub one_or_other : (b : Bool) (y z : SlotState) → IsThere (cond b (Some y) (Some z))
one_or_other true y z = (y, refl)
one_or_other false y z = (z, refl)

-- ---- throwing, where the target is there
module _ (t : ℕ) (x : SlotState) where
  at_there : (u : ℕ) (e : Exn) (o : Option SlotThread) (th : SlotThread) → o ≡ Some th → IsThere (thrown_at t u e o x)
  at_there u e None th is = absurd (cc is)
  at_there u e (Some b) th is = one_or_other b.finished (answer t UnitValue x) (throws_at t u e x)

  or_itself : (b : Bool) (y : SlotState) (o : Option SlotState) → IsThere o → IsThere (cond b (Some y) o)
  or_itself true y o h = (y, refl)
  or_itself false y o h = h

  throw_there : (u : ℕ) (e : Exn) (th : SlotThread) → slice_get x.threads u ≡ Some th → IsThere (thrown t u e x)
  throw_there u e th is = or_itself (u == t) (throws t e x) (thrown_at t u e (slice_get x.threads u) x) (at_there u e (slice_get x.threads u) th is)

  -- ---- each primitive
  module _ (cells : ℕ → T → Type 0) (m : Mask) where
    -- whom these values name to be thrown at is there
    abbrev pub TargetThere : Primitive → List V → Type 0
    TargetThere p vs = (u : ℕ) (e : Exn) → p ≡ ThrowTo → vs ≡ val.Thread u ∷ Exception e ∷ [] → (th : SlotThread) × (slice_get x.threads u ≡ Some th)

    call_there : (p : Primitive) (vs : List V) {ks : List Sort} {k : Sort} → Asks p ks k → AllOfSorts cells ks vs → TargetThere p vs → IsThere (performed t m p vs x)
    call_there p vs asks_put_str (one_value {v = Text b} h no_values) there = (_, refl)
    call_there p vs asks_put_str_ln (one_value {v = Text b} h no_values) there = (_, refl)
    call_there p vs asks_h_put_str_ln (one_value {v = Text b} h no_values) there = (_, refl)
    call_there p vs asks_new (one_value h no_values) there = (_, refl)
    call_there p vs asks_new_empty no_values there = (_, refl)
    call_there p vs asks_new_scope_cell no_values there = (_, refl)
    call_there p vs asks_take (one_value {v = val.Cell n} h no_values) there = (_, refl)
    call_there p vs asks_put (one_value {v = val.Cell n} h (one_value g no_values)) there = (_, refl)
    call_there p vs asks_put_end (one_value {v = val.Cell n} h (one_value g no_values)) there = (_, refl)
    call_there p vs asks_read (one_value {v = val.Cell n} h no_values) there = (_, refl)
    call_there p vs asks_read_end (one_value {v = val.Cell n} h no_values) there = (_, refl)
    call_there p vs asks_try_take (one_value {v = val.Cell n} h no_values) there = (_, refl)
    call_there p vs asks_try_put (one_value {v = val.Cell n} h (one_value g no_values)) there = (_, refl)
    call_there p vs asks_my_thread no_values there = (_, refl)
    call_there p vs asks_masking no_values there = (_, refl)
    call_there p vs asks_clock no_values there = (_, refl)
    call_there p vs asks_delay (one_value {v = Int n} h no_values) there = (_, refl)
    call_there p vs asks_throw_to (one_value {v = val.Thread u} h (one_value {v = Exception e} g no_values)) there = let k = there u e refl refl in throw_there u e k.0 k.1
    call_there p vs asks_throw_to (one_value {v = val.Thread u} h (one_value g no_values)) there = absurd g
    call_there p vs asks_new_timeout no_values there = (_, refl)
    call_there p vs asks_acquired no_values there = (_, refl)
    call_there p vs asks_release (one_value {v = Inst i} h no_values) there = (_, refl)
    -- a value of another form isn't of the type
    call_there p vs _ (one_value h g) there = absurd h

    -- ---- any operation that stands for a named one
    pub operation_there : (ds : List Fn) (p : SlotOp) {q : named.Part} {k : Sort} → PartStands cells ds (performs p) q k → ((u : ℕ) (e : Exn) → p ≡ calls ThrowTo (val.Thread u ∷ Exception e ∷ []) → (th : SlotThread) × (slice_get x.threads u ≡ Some th)) → IsThere (operated t m p x)
    operation_there ds (calls p vs) (op_stands (calls_stands a h)) there = call_there p vs a h (λ u e is vs_are. there u e (ap (λ z. calls z vs) is ∙ ap (calls ThrowTo) vs_are))
    operation_there ds (forks tree vs) h there = (_, refl)
    operation_there ds (forks_unmask tree vs) h there = (_, refl)
