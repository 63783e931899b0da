-- Where the first of each name stands.
use Rattle.std.specs.Prelude.{◌≡◌, ℕ, suc, List, [], ◌∷◌, length, cond, Option, Some, None, bytes_eq}
use Rattle.std.specs.BTreeMap.{get_by_text}
use Rattle.hs_index.specs.declared.index.Index.{Index}

-- a place in a list, where one more stands in front
abbrev pub next : Option ℕ → Option ℕ
next None = None
next (Some k) = Some (suc k)

-- the place of the first such name (own)
abbrev pub first_among : List (List ℕ) → List ℕ → Option ℕ
first_among [] x = None
first_among (y ∷ ys) x = cond (bytes_eq y x) (Some 0) (next (first_among ys x))

-- an index has the place of the first of each name of a list, and their count
pub record Indexes (i : Index) (names : List (List ℕ)) : Type 0 where
  pub count : i.count ≡ length names
  pub first : (x : List ℕ) → get_by_text i.firsts x ≡ first_among names x
