-- The lines of the places, one place more.
use Rattle.std.proofs.Common.{◌≡◌, ℕ, ◌+◌, [], ◌∷◌, ◌++◌, zero, suc, arith, refl}
use Rattle.std.specs.List.{range_with_len}
use Rattle.std.proofs.lemmas.List.{append-nil}
use Rattle.std.proofs.lemmas.List.Concat.{flat_map-append}
use Rattle.conc_task.specs.ring.Ring.{place_lines, lines_of_places}

-- no place has no lines
pub lines_of_places-none : lines_of_places 0 ≡ []
unfolding lines_of_places
lines_of_places-none = refl

range_with_len-more : (a n b : ℕ) → a + n ≡ b → range_with_len a (n + 1) ≡ range_with_len a n ++ b ∷ []
range_with_len-more a zero b e = grind arith
range_with_len-more a (suc n) b e = grind (arith, range_with_len-more (a + 1) n b)

-- the lines of one place more
pub lines_of_places-more : (n : ℕ) → lines_of_places (n + 1) ≡ lines_of_places n ++ place_lines n
unfolding lines_of_places
lines_of_places-more n = rw (range_with_len-more 0 n n (omega arith), flat_map-append) (simp append-nil)
