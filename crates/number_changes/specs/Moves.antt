-- What a move of a state in numbers finds (own).
use Rattle.std.specs.Prelude.{◌≡◌, ◌++◌, ℕ, false, List, [], ◌∷◌, Option, Some, None, slice_get}
use Rattle.hs_base.specs.declared.mask.Mask.TheVariants.{Unmasked}
use Rattle.rules_meaning.specs.Values.{V}
use Rattle.hs_rules.specs.declared.entry.Entry.{Entry}
use Rattle.rules_code.specs.declared.act.ActId.{ActId}
use Rattle.rules_code.specs.declared.code.CodeBody.{CodeBody}
use Rattle.slot_laws.specs.SlotRules.{SlotTerm, at, doing, mask_in, mask_from}
use Rattle.slot_states.specs.SlotStates.{SlotState}
use Rattle.slot_states.specs.Printing.{output_by, errors_by}
use Rattle.slot_states.specs.entering.Entering.{entered}
use Rattle.local_steps.specs.Machine.{act_of, funs_of}
use Rattle.number_states.specs.declared.state.NumberThread.{NumberThread}
use Rattle.number_states.specs.declared.state.NumberState.{NumberState}
use Rattle.number_states.specs.Stocks.{Stock, term_at, text_at}
use Rattle.number_states.specs.States.{AreIn, slots}

-- The state y in a stock h stands for what f makes of what x in g stands for. Its numbers are those of something, and behind the
-- two texts stand these bytes.
pub record Makes (f : SlotState → Option SlotState) (b : CodeBody) (g : Stock) (x : NumberState) (out err : List ℕ) (h : Stock) (y : NumberState) : Type 0 where
  pub is : f (slots g b x) ≡ Some (slots h b y)
  pub there : AreIn h y
  pub output : text_at h y.output ≡ text_at g x.output ++ out
  pub errors : text_at h y.errors ≡ text_at g x.errors ++ err

-- such a state, or none where f makes none
abbrev pub Finds : (SlotState → Option SlotState) → CodeBody → Stock → NumberState → List ℕ → List ℕ → Stock → Option NumberState → Type 0
Finds f b g x out err h None = f (slots g b x) ≡ None
Finds f b g x out err h (Some y) = Makes f b g x out err h y

-- the state that an entry leaves, while the main thread goes on
abbrev pub Enters : Entry → CodeBody → Stock → NumberState → Stock → Option NumberState → Type 0
Enters e b g x h found = Finds (λ s. entered (funs_of b) s e) b g x (output_by (slots g b x) e) (errors_by (slots g b x) e) h found

-- a thread is there and hasn't finished
pub record IsActing (x : NumberState) (t : ℕ) (th : NumberThread) : Type 0 where
  pub is : slice_get x.threads.items t ≡ Some th
  pub unfinished : th.finished ≡ false

-- the term that a fork begins: this action with these values, in the masking state inside the term of its parent
abbrev pub child_term : Stock → ℕ → CodeBody → ActId → List V → SlotTerm
child_term g parent b action vs = at (doing (act_of b action) vs) (mask_in (mask_from Unmasked (term_at g b parent).frames) ∷ [])
