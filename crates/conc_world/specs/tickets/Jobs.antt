-- Jobs by ticket and tickets by thread, as tables say them (own).
use Rattle.std.specs.Prelude.{ℕ, Option, Some, None}
use Rattle.conc_world.specs.declared.tickets.tickets.Out.{Out}

-- whose job it is
abbrev pub thread_of : Option Out → Option ℕ
thread_of None = None
thread_of (Some out) = Some out.thread
