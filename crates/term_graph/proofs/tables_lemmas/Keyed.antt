-- Keys of values, one value after the other.
use Rattle.std.proofs.Common.{◌≡◌, ℕ, ◌+◌, List, ◌∷◌, ◌++◌, Some, slice_get, drop, sym, ap, ◌∙◌, append_assoc}
use Rattle.std.proofs.lemmas.List.{drop_more}
use Rattle.std.proofs.lemmas.Option.{slice_get_within, get_or_from_slice_get}
use Rattle.hs_base.specs.declared.value.Value.{Value}
use Rattle.rules_meaning.specs.Values.{value_of, values_of}
use Rattle.number_tables.specs.value_keys.Keys.{value_key, values_key}

drop_at : {X : Type 0} (xs : List X) (n : ℕ) (x : X) → slice_get xs n ≡ Some x → drop n xs ≡ x ∷ drop (n + 1) xs
drop_at xs n x e = drop_more xs n x (slice_get_within xs n x e) ∙ ap (λ y. y ∷ drop (n + 1) xs) (get_or_from_slice_get xs n x x e)

-- one value more was put
pub one_put : (vs : List Value) (n : ℕ) (v : Value) (out more all : List ℕ) → slice_get vs n ≡ Some v → out ++ values_key (values_of (drop n vs)) ≡ all → more ≡ out ++ value_key (value_of v)
    → more ++ values_key (values_of (drop (n + 1) vs)) ≡ all
one_put vs n v out more all e was is =
    ap (λ z. z ++ values_key (values_of (drop (n + 1) vs))) is
    ∙ append_assoc out (value_key (value_of v)) (values_key (values_of (drop (n + 1) vs)))
    ∙ ap (λ (ws : List Value). out ++ values_key (values_of ws)) (sym (drop_at vs n v e))
    ∙ was
