-- What the index of pure functions finds.
use Rattle.std.proofs.Common.{◌≡◌, ℕ, ◌==◌, List, [], ◌∷◌, Bool, true, false, cond, Option, Some, None, refl, ap, ◌∙◌}
use Rattle.std.specs.Prelude.{bytes_eq, slice_get}
use Rattle.hs_index.specs.Indexing.{first_among, next}
use Rattle.rules_code.specs.declared.node.ExprId.{ExprId}
use Rattle.hs_nodes.specs.declared.places.Place.{Place}
use Rattle.hs_nodes.specs.Finding.{texts_of, first_of}
use Rattle.hs_nodes.specs.Emitting.{place_of}

abbrev pub standing : List Place → Option ℕ → Option Place
standing ps None = None
standing ps (Some k) = slice_get ps k

behind : (p : Place) (ps : List Place) (b : Bool) (o : Option ℕ) → cond b (Some p) (standing ps o) ≡ standing (p ∷ ps) (cond b (Some 0) (next o))
behind p ps true o = refl
behind p ps false None = refl
behind p ps false (Some k) = refl

-- the first of a name stands at the place that the index has
pub found : (ps : List Place) (x : List ℕ) → first_of ps x ≡ standing ps (first_among (texts_of ps) x)
found [] x = refl
found (p ∷ ps) x = ap (cond (bytes_eq p.text x) (Some p)) (found ps x) ∙ behind p ps (bytes_eq p.text x) (first_among (texts_of ps) x)

-- the node that a call means, of the function that is found
abbrev pub node_of : Option Place → ℕ → ExprId → ExprId
node_of None k d = d
node_of (Some p) k d = cond (p.params == k) p.node d

meant : (p : Place) (o : Option Place) (b : Bool) (k : ℕ) (d : ExprId) → cond b (cond (p.params == k) p.node d) (node_of o k d) ≡ node_of (cond b (Some p) o) k d
meant p o true k d = refl
meant p o false k d = refl

-- a call means the first function of its name
pub place_by : (ps : List Place) (x : List ℕ) (k : ℕ) (d : ExprId) → place_of ps x k d ≡ node_of (first_of ps x) k d
place_by [] x k d = refl
place_by (p ∷ ps) x k d = ap (cond (bytes_eq p.text x) (cond (p.params == k) p.node d)) (place_by ps x k d) ∙ meant p (first_of ps x) (bytes_eq p.text x) k d
