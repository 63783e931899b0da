use Rattle.std.proofs.Common.{◌≡◌, drop}
use Rattle.hs_io.specs.Outside.{stop_of}
use Rattle.hs_io.proofs.mem_sink.stop_at.Given as goal

-- no pair before this one lists the call
abbrev pub invariant-loop-pair : goal.invariant-loop-pair
invariant-loop-pair l = stop_of l.fails l.call ≡ stop_of (drop l.pair-index l.fails) l.call
