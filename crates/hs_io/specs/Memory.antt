-- What the implementations in memory show of themselves.
use Rattle.std.specs.Prelude.{ℕ, ◌-◌, List, length, drop}
use Rattle.std.specs.declared.option.Option.{Option}
use Rattle.hs_base.specs.declared.clock_choice.ClockChoice.{ClockChoice}
use Rattle.hs_io.specs.declared.clock.VirtualClock.{VirtualClock}
use Rattle.hs_io.specs.declared.standing_clock.StandingClock.{StandingClock}
use Rattle.hs_io.specs.declared.mem_source.MemSource.{MemSource}
use Rattle.hs_io.specs.declared.mem_source.PlainSource.{PlainSource}
use Rattle.hs_io.specs.declared.mem_sink.MemSink.{MemSink}

-- the last reading of a virtual clock
abbrev pub moment_of : VirtualClock → ℕ
moment_of c = c.last

-- its choice, if any
abbrev pub choice_of : VirtualClock → Option ClockChoice
choice_of c = c.choice

-- the choice of a standing clock, if any
abbrev pub standing_choice_of : StandingClock → Option ClockChoice
standing_choice_of c = c.choice

-- how many of its waits were early
abbrev pub standing_early_waits : StandingClock → ℕ
standing_early_waits c = c.early_waits

-- the bytes that a source has left
abbrev pub bytes_left : MemSource → List ℕ
bytes_left s = drop s.at s.bytes.items

-- at most so many bytes a call
abbrev pub piece_of : MemSource → ℕ
piece_of s = s.piece

-- the calls that fail, from 1
abbrev pub failing_reads : MemSource → List ℕ
failing_reads s = s.fails.items

-- how many calls there were
abbrev pub read_calls : MemSource → ℕ
read_calls s = s.calls

-- how many of them failed
abbrev pub read_faults : MemSource → ℕ
read_faults s = s.faults

-- the bytes that a plain source has left
abbrev pub plain_left : PlainSource → List ℕ
plain_left s = drop s.at s.bytes.items

-- the bytes that a sink was told
abbrev pub bytes_told : MemSink → List ℕ
bytes_told s = s.told.items

-- how many bytes it takes in all
abbrev pub room_of : MemSink → ℕ
room_of s = s.room

-- how many more bytes it takes
abbrev pub room_left : MemSink → ℕ
room_left s = s.room - length s.told.items

-- the calls that fail, from 1, each with how many bytes it tells at most
abbrev pub failing_puts : MemSink → List (ℕ × ℕ)
failing_puts s = s.fails.items

-- how many calls there were
abbrev pub put_calls : MemSink → ℕ
put_calls s = s.calls

-- how many of them failed
abbrev pub put_faults : MemSink → ℕ
put_faults s = s.faults
