-- A number that is at most 4,000 has at most four digits, so a place has at most 207 bytes, and a ring is short.
use Rattle.std.proofs.Common.{ℕ, ◌+◌, ◌*◌, ◌≤◌, zero, suc, length, length-append, arith}
use Rattle.std.specs.Fmt.{decimal}
use Rattle.std.specs.List.{flat_map, range_with_len}
use Rattle.std.proofs.lemmas.Fmt.{length-decimal-le}
use Rattle.conc_task.specs.ring.Ring.{place_lines, worker_line, starter_line, last_starter_line, main_line, lines_of_places, RingsAreShort}

four_digits : (n : ℕ) → n ≤ 4000 → length (decimal n) ≤ 4
four_digits n h = length-decimal-le 4 n (omega arith) (omega arith) (omega arith)

length-worker_line : (n : ℕ) → n ≤ 4000 → length (worker_line n) ≤ 92
unfolding worker_line
length-worker_line n h = simp length-append (omega (arith, four_digits n h))

length-starter_line : (n m : ℕ) → n ≤ 4000 → m ≤ 4000 → length (starter_line n m) ≤ 115
unfolding starter_line
length-starter_line n m h k = simp length-append (omega (arith, four_digits n h, four_digits m k))

length-last_starter_line : (n : ℕ) → n ≤ 4000 → length (last_starter_line n) ≤ 83
unfolding last_starter_line
length-last_starter_line n h = simp length-append (omega (arith, four_digits n h))

length-main_line : length main_line ≤ 104
unfolding main_line
length-main_line = omega arith

-- the lines of k places from a
length-places : (k a : ℕ) → a + k ≤ 4000 → length (flat_map place_lines (range_with_len a k)) ≤ 207 * k
length-places zero a h = omega arith
length-places (suc k) a h = simp length-append (omega (arith, length-worker_line a (omega arith), length-starter_line a (a + 1) (omega arith) (omega arith), length-places k (a + 1) (omega arith)))

pub rings_are_short : RingsAreShort
unfolding lines_of_places
rings_are_short n h = simp length-append (omega (arith, length-places n 0 (omega arith), length-last_starter_line n h, length-main_line))
