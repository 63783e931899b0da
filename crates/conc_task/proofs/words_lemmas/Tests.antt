-- What an item that is found passes.
use Rattle.std.proofs.Common.{◌≡◌, Bool, cond, true, false, List, [], ◌∷◌, Some, None, ap, subst}
use Rattle.std.specs.Option.{unwrap_or}
use Rattle.std.specs.List.{find, list_all}
use Rattle.std.proofs.lemmas.Bool.{and_parts}

-- the first of a list that passes a test is one of the list
pub found_passes : {X : Type 0} (p q : X → Bool) (xs : List X) (x : X) → list_all p xs ≡ true → find q xs ≡ Some x → p x ≡ true
found_passes p q [] x all found = absurd (none found)
  where
    none : {X : Type 0} → {x : X} → None ≡ Some x → ⊥
    none e = cc
found_passes p q (y ∷ ys) x all found = go (q y) (and_parts _ _ all) found (found_passes p q ys x)
  where
    go : (b : Bool) → (p y ≡ true) × (list_all p ys ≡ true) → cond b (Some y) (find q ys) ≡ Some x → (list_all p ys ≡ true → find q ys ≡ Some x → p x ≡ true) → p x ≡ true
    go true parts e later = subst (λ z. p z ≡ true) (ap (λ o. unwrap_or o y) e) parts.0
    go false parts e later = later parts.1 e
