-- What the clock of the machine shows of itself, whatever system it asks.
use Rattle.std.specs.Prelude.{ℕ}
use Rattle.std.specs.declared.option.Option.{Option}
use Rattle.hs_base.specs.declared.clock_choice.ClockChoice.{ClockChoice}
use Rattle.hs_io.specs.declared.host_clock.HostClock.{HostClock}

-- its last reading
abbrev pub host_moment : {R : Type 0} → HostClock R → ℕ
host_moment c = c.last

-- its choice, if any
abbrev pub host_choice_of : {R : Type 0} → HostClock R → Option ClockChoice
host_choice_of c = c.choice

-- how many of its waits were early
abbrev pub host_early_waits : {R : Type 0} → HostClock R → ℕ
host_early_waits c = c.early_waits
