-- What `Flight` means: the exceptions in flight, in order of throwing, and how many more fit.
use Rattle.std.specs.Prelude.{ℕ, List, Option, Some, None}
use Rattle.std.specs.Borrow.{Bor}
use Rattle.hs_base.specs.declared.exn.Exn.{Exn}
use Rattle.rules_waiting.specs.Waiting.{Flying, withdrawn}
use Rattle.exn_flight.specs.Numbered.{AreDistinct}

pub record InFlight : Type 0 where
  pub list : List Flying
  pub spare : ℕ

abbrev pub in_flight : List Flying → ℕ → InFlight
in_flight fs spare = record { list = fs; spare = spare }

-- no thread throws twice
abbrev pub AreThrowers : List Flying → Type 0
AreThrowers fs = AreDistinct (λ (f : Flying). f.thrower) fs

-- what is left once this exception is delivered: those of all other throwers
abbrev pub after_delivery : Option (ℕ × Exn) → List Flying → List Flying
after_delivery None fs = fs
after_delivery (Some w) fs = withdrawn w.0 fs

-- an exception that is lent
abbrev pub shown : Option (ℕ × Bor Exn) → Option (ℕ × Exn)
shown None = None
shown (Some w) = Some (w.0, w.1.now)
