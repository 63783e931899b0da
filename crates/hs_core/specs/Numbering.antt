-- The numbers of action functions, by their names.
use Rattle.std.specs.Prelude.{ℕ, ◌+◌, List, [], ◌∷◌, cond, bytes_eq}
use Rattle.rules_expansion.specs.Core.{ActionFunction}

abbrev pub names_of : List ActionFunction → List (List ℕ)
names_of [] = []
names_of (d ∷ ds) = d.name ∷ names_of ds

-- the place of the first such name, or behind the last
abbrev pub index_among : List (List ℕ) → List ℕ → ℕ
index_among [] f = 0
index_among (x ∷ xs) f = cond (bytes_eq f x) 0 (1 + index_among xs f)
