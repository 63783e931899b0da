-- Eager local rules of states with slots (own): each is the local rule of one thread, and eager by that thread's term alone.
--
-- A search over all schedules may take such a rule at once, in place of trying what others do before it: what they do comes
-- to the same before it and after it.
use Rattle.std.specs.Prelude.{◌≡◌, ℕ, zero, suc, true, false, List, [], ◌∷◌, Some, slice_get}
use Rattle.hs_base.specs.declared.mask.Mask.TheVariants.{Unmasked}
use Rattle.hs_rules.specs.declared.entry.Entry.{Entry}
use Rattle.hs_rules.specs.declared.entry.Entry.TheVariants as entry
use Rattle.rules_code.specs.CodeTrees.{SlottedFunction}
use Rattle.slot_laws.specs.SlotRules.{SlotTerm, local}
use Rattle.slot_states.specs.SlotStates.{SlotThread, SlotState, moves, MainGoes}
use Rattle.term_graph.specs.Eager.{is_eager}

-- One eager local rule leads from a state to another: the thread of this number hasn't finished and isn't blocked, the main
-- thread hasn't finished, and the rule is eager by the thread's term.
pub record EagerMove (funs : List SlottedFunction) (x y : SlotState) : Type 0 where
  pub number : ℕ
  pub thread : SlotThread
  pub is : slice_get x.threads number ≡ Some thread
  pub unfinished : thread.finished ≡ false
  pub free : thread.blocked ≡ false
  pub main : MainGoes x
  -- where the rule leads
  pub term : SlotTerm
  pub leads : local funs Unmasked thread.term.part thread.term.frames ≡ Some term
  pub eager : is_eager funs thread.term ≡ true
  pub moved : y ≡ moves number term x

-- a chain of so many, of any threads, leads from a state to another
abbrev pub EagerMoves : List SlottedFunction → ℕ → SlotState → SlotState → Type 0
EagerMoves funs zero x y = x ≡ y
EagerMoves funs (suc k) x y = (m : SlotState) × EagerMove funs x m × EagerMoves funs k m y

-- each of these entries is a Local of one step
abbrev pub AreLocals : List Entry → Type 0
AreLocals [] = Unit {0}
AreLocals (e ∷ es) = ((t : ℕ) × (e ≡ entry.Local t 1)) × AreLocals es
