-- Pure functions by name.
use Rattle.std.specs.Prelude.{ℕ, List, [], ◌∷◌, map, cond, Option, Some, None, bytes_eq}
use Rattle.hs_nodes.specs.declared.places.Place.{Place}

abbrev pub texts_of : List Place → List (List ℕ)
texts_of ps = map (λ p. p.text) ps

-- the first function of a name
abbrev pub first_of : List Place → List ℕ → Option Place
first_of [] x = None
first_of (p ∷ ps) x = cond (bytes_eq p.text x) (Some p) (first_of ps x)
