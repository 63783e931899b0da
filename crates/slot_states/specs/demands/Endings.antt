-- What states with slots show of how main has ended (own).
use Rattle.std.specs.Prelude.{◌≡◌, Some, slice_get, true}
use Rattle.hs_base.specs.declared.exn.Exn.{Exn}
use Rattle.rules_meaning.specs.Values.{V}
use Rattle.slot_laws.specs.SlotRules.{ret, throw}
use Rattle.slot_states.specs.SlotStates.{SlotThread, SlotState}

-- main is there and has finished by a value
abbrev pub ShowsValueOfMain : SlotState → Type 0
ShowsValueOfMain x =
    (th : SlotThread) × (slice_get x.threads 0 ≡ Some th) × (th.finished ≡ true) × ((v : V) × (th.term.part ≡ ret v))

-- main is there and has finished by an exception
abbrev pub ShowsExceptionOfMain : SlotState → Type 0
ShowsExceptionOfMain x =
    (th : SlotThread) × (slice_get x.threads 0 ≡ Some th) × (th.finished ≡ true) × ((e : Exn) × (th.term.part ≡ throw e))
