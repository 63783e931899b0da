-- What a state in numbers, and a term of one, lead to (own).
use Rattle.std.specs.Prelude.{ℕ, Option}
use Rattle.hs_base.specs.declared.mask.Mask.TheVariants.{Unmasked}
use Rattle.hs_rules.specs.declared.entry.Entry.{Entry}
use Rattle.rules_code.specs.declared.code.CodeBody.{CodeBody}
use Rattle.slot_laws.specs.SlotRules.{SlotTerm, locals}
use Rattle.slot_states.specs.SlotStates.{SlotState}
use Rattle.slot_states.specs.entering.Entering.{next}
use Rattle.local_steps.specs.Machine.{funs_of}
use Rattle.number_states.specs.declared.state.NumberState.{NumberState}
use Rattle.number_states.specs.Stocks.{Stock, term_at}
use Rattle.number_states.specs.States.{slots}

-- what so many local rules give of the term of a number
abbrev pub rules_at : CodeBody → Stock → ℕ → ℕ → Option SlotTerm
rules_at b g k n = locals (funs_of b) Unmasked k (term_at g b n)

-- what an entry leaves of the state that one in numbers stands for
abbrev pub next_at : CodeBody → Stock → NumberState → Entry → Option SlotState
next_at b g x e = next (funs_of b) (slots g b x) e
