-- The first state of a code (own).
use Rattle.std.specs.Prelude.{[], ◌∷◌, false}
use Rattle.rules_code.specs.declared.code.CodeBody.{CodeBody}
use Rattle.slot_laws.specs.SlotRules.{doing, at}
use Rattle.slot_states.specs.SlotStates.{SlotState}
use Rattle.local_steps.specs.Machine.{act_of}

-- main alone is to do its action
abbrev pub first_state : CodeBody → SlotState
first_state b = record {
  threads = record { term = at (doing (act_of b b.main) []) []; blocked = false; finished = false } ∷ [];
  cells = [];
  flight = [];
  sleepers = [];
  clock = 0;
  next_instance = 0;
  next_timeout = 0;
  printed = 0;
}
