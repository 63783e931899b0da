-- The keys of states in numbers (own): none begins another. A 0 ends a list, and what stands in one begins with another number.
use Rattle.std.specs.Prelude.{ℕ, Bool, true, false, List, [], ◌∷◌, ◌++◌}
use Rattle.number_tables.specs.value_keys.Keys.{wide_key}
use Rattle.number_states.specs.waits.Keys.{cells_key, flight_key, sleepers_key}
use Rattle.number_states.specs.declared.state.NumberThread.{NumberThread}
use Rattle.number_states.specs.declared.state.NumberState.{NumberState}
use Rattle.number_states.specs.States.{Contents, contents}

-- whether a thread is blocked, and whether it has finished
abbrev pub standing_number : Bool → Bool → ℕ
standing_number false false = 1
standing_number true false = 2
standing_number false true = 3
standing_number true true = 4

abbrev pub threads_key : List NumberThread → List ℕ
threads_key [] = 0 ∷ []
threads_key (th ∷ ths) = standing_number th.blocked th.finished ∷ th.term ∷ threads_key ths

-- the numbers that stand alone
abbrev pub counts_key : Contents → List ℕ
counts_key x = wide_key x.clock ++ (x.instances ∷ x.timeouts ∷ (wide_key x.printed ++ x.output ∷ x.errors ∷ []))

abbrev pub contents_key : Contents → List ℕ
contents_key x = threads_key x.threads ++ (cells_key x.cells ++ (flight_key x.flight ++ (sleepers_key x.sleepers ++ counts_key x)))

abbrev pub state_key : NumberState → List ℕ
state_key x = contents_key (contents x)
