-- When the values of slots are those of the names of a scope (own).
use Rattle.std.specs.Prelude.{◌≡◌, ℕ, ◌==◌, List, [], ◌∷◌, length, false, cond, Option, Some, None, slice_get}
use Rattle.rules_expansion.specs.Names.{Name, Added, Unread, same_name}
use Rattle.rules_meaning.specs.Values.{V, Env, value_at}
use Rattle.rules_meaning.specs.Meaning.{Functions}
use Rattle.rules_code.specs.Slots.{Scope, slot_of, Root, s_bad, run}

-- a name's slot holds its value, and a name without one has none
abbrev pub Seen : Option ℕ → Option V → List V → Type 0
Seen None None vs = Unit {0}
Seen None (Some v) vs = ⊥
Seen (Some k) None vs = ⊥
Seen (Some k) (Some v) vs = slice_get vs k ≡ Some v

-- there is a slot for each name of the scope, and what nothing reads has none
pub record Matches (s : Scope) (env : Env) (vs : List V) : Type 0 where
  pub size : length vs ≡ length s
  pub seen : (y : Name) → same_name y Unread ≡ false → Seen (slot_of s y) (value_at y env) vs

-- bodies that mean what functions answer, one for each
abbrev pub Parallel : Functions → List Root → Type 0
Parallel [] [] = Unit {0}
Parallel [] (r ∷ rs) = ⊥
Parallel (f ∷ fs) [] = ⊥
Parallel (f ∷ fs) (r ∷ rs) = (f.0 ≡ r.text) × ((vs : List V) → run (cond (r.params == length vs) r.tree s_bad) vs ≡ f.1 vs) × Parallel fs rs
