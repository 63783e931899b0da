use Rattle.std.proofs.Common.{◌≡◌, vec_len}
use Rattle.caps_visits.proofs.parkers.parkers_for.Given as goal

abbrev pub invariant-loop : goal.invariant-loop
invariant-loop l = vec_len l.berths ≡ l.counter
