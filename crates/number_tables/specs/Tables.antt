-- Things by number (own): a table is the list of its things, the number of one is its place, and it is found by its key.
use Rattle.std.specs.Prelude.{◌≡◌, ℕ, List, ◌++◌, Option, Some, slice_get, map, nat_eq, Vec}
use Rattle.std.specs.Cmp.Lexicographic.{pointwise}
use Rattle.std.specs.HashMap.{HashMap, get_by}

-- the other list is this one with more behind it
abbrev pub Grows : {T : Type 0} → List T → List T → Type 0
Grows {T} old new = (more : List T) × (new ≡ old ++ more)

module _ {T : Type 0} (key : T → List ℕ) where
  -- the thing of this number has the key of that thing
  abbrev pub IsNumberOf : List T → ℕ → T → Type 0
  IsNumberOf things n thing = (one : T) × (slice_get things n ≡ Some one) × (key one ≡ key thing)

  -- no two things have one key
  abbrev pub AreApart : List T → Type 0
  AreApart things = (i j : ℕ) (a b : T) → slice_get things i ≡ Some a → slice_get things j ≡ Some b → key a ≡ key b → i ≡ j

-- what a map from keys has at a key
abbrev pub number_at : {Z S : Type 0} → HashMap (Vec ℕ Z) ℕ S → List ℕ → Option ℕ
number_at m q = get_by (λ k. pointwise nat_eq q k.items) m

-- a map has at each key the number of the thing with that key, and nothing where there is none
pub record IsIndex {T Z S : Type 0} (key : T → List ℕ) (m : HashMap (Vec ℕ Z) ℕ S) (things : List T) : Type 0 where
  pub found : (q : List ℕ) (n : ℕ) → number_at m q ≡ Some n → slice_get (map key things) n ≡ Some q
  pub all : (q : List ℕ) (n : ℕ) → slice_get (map key things) n ≡ Some q → number_at m q ≡ Some n
