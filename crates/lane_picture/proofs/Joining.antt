-- The marks of lists, one more.
use Rattle.std.proofs.Common.{◌≡◌, ◌<◌, ℕ, ◌+◌, List, [], ◌∷◌, ◌++◌, length, map, take, get_or, add-one, sym, ap, ◌∙◌, append_assoc}
use Rattle.std.specs.List.{flat_map}
use Rattle.std.proofs.lemmas.List.{take_more, map-append, append-nil}
use Rattle.std.proofs.lemmas.List.Concat.{flat_map-append}
use Rattle.lane_picture.specs.Marks.{all_below}

pub single : {A B : Type 0} (f : A → List B) (x : A) → flat_map f (x ∷ []) ≡ f x
single f x = append-nil (f x)

-- what is made of each item, one more
pub each_on : {A B C : Type 0} (f : B → List C) (g : A → B) (xs : List A) (i : ℕ) (d : A) → i < length xs → flat_map f (map g (take (i + 1) xs)) ≡ flat_map f (map g (take i xs)) ++ f (g (get_or xs i d))
each_on f g xs i d h =
    ap (λ z. flat_map f (map g z)) (take_more xs i d h)
    ∙ (ap (flat_map f) (map-append g (take i xs) (get_or xs i d ∷ []))
    ∙ (flat_map-append f (map g (take i xs)) (g (get_or xs i d) ∷ [])
    ∙ ap (λ z. flat_map f (map g (take i xs)) ++ z) (single f (g (get_or xs i d)))))

-- what is made of each number below, one more
pub below_on : {A B : Type 0} (f : A → List B) (g : ℕ → List A) (n : ℕ) → flat_map f (all_below g (n + 1)) ≡ flat_map f (all_below g n) ++ flat_map f (g n)
below_on f g n = ap (λ m. flat_map f (all_below g m)) (add-one n) ∙ flat_map-append f (all_below g n) (g n)

-- the same behind others
pub behind_on : {A B : Type 0} (f : A → List B) (xs : List A) (g : ℕ → List A) (n : ℕ) → flat_map f (xs ++ all_below g (n + 1)) ≡ flat_map f (xs ++ all_below g n) ++ flat_map f (g n)
behind_on f xs g n =
    ap (λ m. flat_map f (xs ++ all_below g m)) (add-one n)
    ∙ (ap (flat_map f) (sym (append_assoc xs (all_below g n) (g n)))
    ∙ flat_map-append f (xs ++ all_below g n) (g n))

pub three : {A B : Type 0} (f : A → List B) (xs ys zs : List A) → flat_map f (xs ++ ys ++ zs) ≡ flat_map f xs ++ flat_map f ys ++ flat_map f zs
three f xs ys zs = flat_map-append f (xs ++ ys) zs ∙ ap (λ z. z ++ flat_map f zs) (flat_map-append f xs ys)
