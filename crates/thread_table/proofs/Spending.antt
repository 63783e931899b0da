-- What two calls in turn spend.
use Rattle.std.proofs.Common.{ℕ, ◌+◌, arith}
use Rattle.thread_table.specs.declared.threads.Threads.{Threads}
use Rattle.thread_table.specs.Rooms.{Spends}

pub spends_both : (w r k n w' r' k' n' : ℕ) (a b c : Threads) → Spends w r k n a b → Spends w' r' k' n' b c → Spends (w + w') (r + r') (k + k') (n + n') a c
spends_both w r k n w' r' k' n' a b c s z = record {
  work = let x = s.work in let y = z.work in omega (arith, x, y);
  ready = let x = s.ready in let y = z.ready in omega (arith, x, y);
  stuck = let x = s.stuck in let y = z.stuck in omega (arith, x, y);
  threads = let x = s.threads in let y = z.threads in omega (arith, x, y);
  flight = let x = s.flight in let y = z.flight in omega (arith, x, y);
}
