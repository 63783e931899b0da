-- The operations at which threads in numbers stand (own).
use Rattle.std.specs.Prelude.{◌≡◌, ℕ, ◌<◌, false, List, None}
use Rattle.hs_base.specs.declared.mask.Mask.TheVariants.{Unmasked}
use Rattle.rules_code.specs.declared.code.CodeBody.{CodeBody}
use Rattle.slot_laws.specs.SlotRules.{SlotPart, performs, SlotFrame, mask_from}
use Rattle.slot_states.specs.SlotStates.{SlotState}
use Rattle.slot_states.specs.Printing.{op_output, op_errors}
use Rattle.slot_states.specs.entering.Entering.{operates}
use Rattle.slot_states.specs.entering.Operating.{operated}
use Rattle.frame_stack.specs.declared.control.Operation.{Operation}
use Rattle.frame_stack.specs.declared.control.Operation.TheVariants as p
use Rattle.frame_stack.specs.Parts.{op_of}
use Rattle.number_states.specs.declared.state.NumberState.{NumberState}
use Rattle.number_states.specs.Stocks.{Stock, term_at, IsTerm}
use Rattle.number_moves.specs.declared.operations.operating.Standing.{Standing}
use Rattle.number_changes.specs.Moves.{IsActing, Makes}

-- a thread with this part, whoever it is, performs nothing
abbrev pub IsIdle : SlotPart → Type 0
IsIdle part = (t : ℕ) (fs : List SlotFrame) (x : SlotState) → operates t fs part x ≡ None

-- thread t, which neither has finished nor is blocked, stands at an operation
pub record Stands (g : Stock) (x : NumberState) (t : ℕ) (s : Standing) : Type 0 where
  pub term : IsTerm g s.term
  pub thread : IsActing x t (record { term = s.term; blocked = false; finished = false })
  pub part : (b : CodeBody) → (term_at g b s.term).part ≡ performs (op_of b s.operation)

-- a throw is at one of so many threads
abbrev pub HasTarget : ℕ → Operation → Type 0
HasTarget count (p.ThrowTo u e) = u < count
HasTarget count _ = Unit {0}

-- thread t, which stands in the term of this number at this operation, has done it
abbrev pub HasDone : ℕ → ℕ → Operation → Stock → NumberState → Stock → NumberState → Type 0
HasDone t n o g x h y =
    (b : CodeBody) → Makes (operated t (mask_from Unmasked (term_at g b n).frames) (op_of b o)) b g x (op_output (op_of b o)) (op_errors (op_of b o)) h y
