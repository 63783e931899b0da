-- When stacks with slots stand for the threads of a state (own).
use Rattle.std.specs.Prelude.{◌≡◌, ℕ, ◌==◌, cond, List, Some, slice_get}
use Rattle.rules_expansion.specs.trees.Programs.{Fn}
use Rattle.hs_rules.specs.State.{Thread, State}
use Rattle.hs_rules.specs.Terms as named
use Rattle.hs_rules.specs.Terms.{term}
use Rattle.hs_progress.specs.TypedStates.{Store, Sound}
use Rattle.slot_laws.specs.SlotRules.{SlotPart, SlotTerm, at}
use Rattle.slot_laws.specs.Standing.{StandsIn, EndsAs}

-- each thread's stack stands for its term, by one store
pub record StacksStand (ds : List Fn) (stacks : ℕ → SlotTerm) (s : State) : Type 0 where
  pub store : Store
  pub sound : Sound ds store s.threads s.cells
  pub stands : (t : ℕ) (th : Thread) → slice_get s.threads t ≡ Some th → StandsIn ds store t (stacks t) th.term

-- thread t has this stack
abbrev pub with_stack : ℕ → SlotTerm → (ℕ → SlotTerm) → ℕ → SlotTerm
with_stack t st stacks u = cond (u == t) st (stacks u)

-- a stack and a term stay as they were, or both get the same value or exception in the place of their part
pub data Resumed (st : SlotTerm) (u : named.Term) : SlotTerm → named.Term → Type 0 where
  stayed : {st' : SlotTerm} {u' : named.Term} → st' ≡ st → u' ≡ u → Resumed st u st' u'
  resumed : {st' : SlotTerm} {u' : named.Term} (p : SlotPart) (x : named.Part) → EndsAs x p → st' ≡ at p st.frames → u' ≡ term x u.frames → Resumed st u st' u'
