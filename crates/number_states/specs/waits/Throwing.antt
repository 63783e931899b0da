-- Exceptions in flight by number, in order of throwing.
use Rattle.std.specs.Prelude.{ℕ, ◌==◌, Bool, cond, List, [], ◌∷◌, Option, Some, None}
use Rattle.hs_base.specs.declared.exn.Exn.{Exn}
use Rattle.rules_waiting.specs.Waiting.{Flying, has, without}
use Rattle.number_states.specs.declared.waits.flight.Thrown.{Thrown}

-- the exceptions of all other throwers
abbrev pub without_thrower : ℕ → List Thrown → List Thrown
without_thrower t fs = without (λ (f : Thrown). f.thrower) t fs

-- whether a thread throws
abbrev pub has_thrower : ℕ → List Thrown → Bool
has_thrower t fs = has (λ (f : Thrown). f.thrower) t fs

-- the exceptions in flight to a thread, in order of throwing
abbrev pub thrown_to : ℕ → List Thrown → List Thrown
thrown_to u [] = []
thrown_to u (f ∷ fs) = cond (f.target == u) (f ∷ thrown_to u fs) (thrown_to u fs)

-- the first of a list
abbrev pub first_of : List Thrown → Option Thrown
first_of [] = None
first_of (f ∷ fs) = Some f

abbrev pub throwers_of : List Thrown → List ℕ
throwers_of [] = []
throwers_of (f ∷ fs) = f.thrower ∷ throwers_of fs

-- ---- what the numbers of exceptions stand for
-- exceptions in flight whose numbers are replaced by exceptions
abbrev pub map_flight : (ℕ → Exn) → List Thrown → List Flying
map_flight f [] = []
map_flight f (x ∷ xs) = record { thrower = x.thrower; target = x.target; exn = f x.exn } ∷ map_flight f xs

-- who throws, and the exception that the number stands for
abbrev pub map_thrown : (ℕ → Exn) → Option Thrown → Option (ℕ × Exn)
map_thrown f None = None
map_thrown f (Some x) = Some (x.thrower, f x.exn)
