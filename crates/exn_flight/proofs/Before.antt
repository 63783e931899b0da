-- The order of sleepers: who is due first comes first, and of two that are due together the one with the lower number.
use Rattle.std.proofs.Common.{◌≡◌, true, false, arith}
use Rattle.rules_waiting.specs.Waiting.{Sleeper, sleeper_before}

pub other_way : (a b : Sleeper) → sleeper_before a b ≡ true → sleeper_before b a ≡ false
other_way a b p = grind arith

pub none_later : (a b c : Sleeper) → sleeper_before b a ≡ false → sleeper_before c b ≡ false → sleeper_before c a ≡ false
none_later a b c p q = grind arith

pub same_due : (a b : Sleeper) → sleeper_before a b ≡ false → sleeper_before b a ≡ false → a.due ≡ b.due
same_due a b p q = grind arith

pub same_thread : (a b : Sleeper) → sleeper_before a b ≡ false → sleeper_before b a ≡ false → a.thread ≡ b.thread
same_thread a b p q = grind arith
