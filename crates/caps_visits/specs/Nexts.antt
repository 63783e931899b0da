-- What a clause says of what a capability does next (own).
use Rattle.std.specs.Prelude.{◌≡◌}
use Rattle.rules_code.specs.declared.code.CodeBody.{CodeBody}
use Rattle.caps_visits.specs.declared.next.Decision.{Decision}
use Rattle.caps_visits.specs.declared.next.Decision.TheVariants.{Stop, Look, Run}

module _ {J : Type 0} (belongs : J → CodeBody) where
  -- a job that is to be run belongs to this code
  abbrev pub RunsOf : CodeBody → Decision J → Type 0
  RunsOf code Stop = Unit {0}
  RunsOf code Look = Unit {0}
  RunsOf code (Run job) = belongs job ≡ code
