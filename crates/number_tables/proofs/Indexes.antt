-- A map from keys to numbers, as it is used and as it grows.
use Rattle.std.proofs.Common.{◌≡◌, ℕ, zero, suc, Bool, true, false, cond, List, [], ◌∷◌, ◌++◌, Option, Some, None, length, slice_get, map, refl, sym, ap, ap₂, ◌∙◌, subst, ◌⊎◌, inl, inr, MatchOption}
use Rattle.std.specs.Prelude.{nat_eq, Vec}
use Rattle.std.specs.Cmp.Lexicographic.{pointwise}
use Rattle.std.specs.Map.{KeepsOthers}
use Rattle.std.specs.HashMap.{HashMap, UpdatesBy}
use Rattle.std.proofs.lemmas.Cmp.{nat_list_eq_equiv}
use Rattle.std.proofs.lemmas.Slice.Eq.{bytes_eq-Decides}
use Rattle.std.proofs.lemmas.Bool.{false_from_ne_true}
use Rattle.std.proofs.lemmas.List.{map_push, length-map}
pub use Rattle.plain_laws.proofs.Lists.{get_append as get_old, get_last}
use Rattle.number_tables.specs.Tables.{IsIndex, IsNumberOf, AreApart, number_at}

same_keys : (xs ys : List ℕ) → pointwise nat_eq xs ys ≡ true → xs ≡ ys
same_keys xs ys = (bytes_eq-Decides xs ys).0

key_itself : (xs : List ℕ) → pointwise nat_eq xs xs ≡ true
key_itself xs = (bytes_eq-Decides xs xs).1 refl

-- ---- lists with one more

pub get_among : {X : Type 0} (xs : List X) (y : X) (n : ℕ) (x : X) → slice_get (xs ++ y ∷ []) n ≡ Some x → (slice_get xs n ≡ Some x) ⊎ ((n ≡ length xs) × (y ≡ x))
get_among [] y zero x e = inr (refl, cc)
get_among [] y (suc n) x e = let z : None ≡ Some x = e in absurd (cc z)
get_among (z ∷ xs) y zero x e = inl e
get_among (z ∷ xs) y (suc n) x e = elim (get_among xs y n x e) [ inl h ↦ inl h | inr h ↦ inr (ap suc h.0, h.1) ]

module _ {T : Type 0} (key : T → List ℕ) where
  pub key_of_thing : (things : List T) (n : ℕ) (one : T) → slice_get things n ≡ Some one → slice_get (map key things) n ≡ Some (key one)
  key_of_thing [] n one e = let z : None ≡ Some one = e in absurd (cc z)
  key_of_thing (x ∷ things) zero one e = let z : Some x ≡ Some one = e in cc z
  key_of_thing (x ∷ things) (suc n) one e = key_of_thing things n one e

  thing_of_key : (things : List T) (n : ℕ) (q : List ℕ) → slice_get (map key things) n ≡ Some q → (one : T) × (slice_get things n ≡ Some one) × (key one ≡ q)
  thing_of_key [] n q e = let z : None ≡ Some q = e in absurd (cc z)
  thing_of_key (x ∷ things) zero q e = (x, refl, let z : Some (key x) ≡ Some q = e in cc z)
  thing_of_key (x ∷ things) (suc n) q e = thing_of_key things n q e

  -- no two things have one key
  pub apart : {Z S : Type 0} (m : HashMap (Vec ℕ Z) ℕ S) (things : List T) → IsIndex key m things → AreApart key things
  apart m things index i j a b p q e =
      let x = index.all (key a) i (key_of_thing things i a p) in
      let y = index.all (key a) j (key_of_thing things j b q ∙ ap (λ k. Some k) (sym e)) in
      cc (x, y)

  -- what the map has at a key
  pub is_number : {Z S : Type 0} (m : HashMap (Vec ℕ Z) ℕ S) (things : List T) (thing : T) (n : ℕ) → IsIndex key m things → number_at m (key thing) ≡ Some n → IsNumberOf key things n thing
  is_number m things thing n index e = thing_of_key things n (key thing) (index.found (key thing) n e)

  pub no_number : {Z S : Type 0} (m : HashMap (Vec ℕ Z) ℕ S) (things : List T) (thing : T) (n : ℕ) → IsIndex key m things → number_at m (key thing) ≡ None → IsNumberOf key things n thing → ⊥
  no_number m things thing n index e is =
      let x = index.all (key thing) n (key_of_thing things n is.0 is.1 ∙ ap (λ k. Some k) is.2) in cc (x, e)

  -- where it has none
  pub none_there : {Z S : Type 0} (m : HashMap (Vec ℕ Z) ℕ S) (things : List T) (thing : T) → IsIndex key m things → ((n : ℕ) → IsNumberOf key things n thing → ⊥) → number_at m (key thing) ≡ None
  none_there m things thing index none = by (number_at m (key thing)) refl
    where
      by : (o : Option ℕ) → number_at m (key thing) ≡ o → o ≡ None
      by None e = refl
      by (Some n) e = absurd (none n (is_number m things thing n index e))

-- what the map has at each key after one more was put there
number_after : {Z S : Type 0} (m n : HashMap (Vec ℕ Z) ℕ S) (k : Vec ℕ Z) (w : ℕ) → UpdatesBy (λ x y. pointwise nat_eq x.items y.items) (λ x. pointwise nat_eq k.items x.items) m n (Some w)
    → (q : List ℕ) (b : Bool) → pointwise nat_eq k.items q ≡ b → number_at n q ≡ cond b (Some w) (number_at m q)
unfolding KeepsOthers
number_after m n k w h q true e = subst (λ z. number_at n z ≡ Some w) (same_keys k.items q e) h.1
number_after m n k w h q false e =
    h.3 (λ x. pointwise nat_eq q x.items) (λ x y. nat_list_eq_equiv.congr q x.items y.items)
    (λ x t. false_from_ne_true (pointwise nat_eq q x.items) (λ u.
    let same : k.items ≡ q = same_keys k.items x.items t ∙ sym (same_keys q x.items u) in
    let z : pointwise nat_eq k.items q ≡ true = ap (λ y. pointwise nat_eq k.items y) (sym same) ∙ key_itself k.items in
    cc (z, e)))

module _ {T Z S : Type 0} (key : T → List ℕ) (m n : HashMap (Vec ℕ Z) ℕ S) (things : List T) (k : Vec ℕ Z) (thing : T)
    (index : IsIndex key m things) (is : k.items ≡ key thing) (none : number_at m (key thing) ≡ None)
    (puts : UpdatesBy (λ x y. pointwise nat_eq x.items y.items) (λ x. pointwise nat_eq k.items x.items) m n (Some (length things))) where
  found_after : (q : List ℕ) (j : ℕ) (b : Bool) → pointwise nat_eq k.items q ≡ b → number_at n q ≡ Some j → slice_get (map key things ++ key thing ∷ []) j ≡ Some q
  found_after q j true e h =
      let at_end : number_at n q ≡ Some (length things) = number_after m n k (length things) puts q true e in
      let is_last : length things ≡ j = cc (at_end, h) in
      let same : key thing ≡ q = sym is ∙ same_keys k.items q e in
      subst (λ i. slice_get (map key things ++ key thing ∷ []) i ≡ Some q) (length-map things key ∙ is_last) (get_last (map key things) (key thing) ∙ ap (λ y. Some y) same)
  found_after q j false e h =
      let before : number_at n q ≡ number_at m q = number_after m n k (length things) puts q false e in
      get_old (map key things) (key thing ∷ []) j q (index.found q j (sym before ∙ h))

  all_after : (q : List ℕ) (j : ℕ) (b : Bool) → pointwise nat_eq k.items q ≡ b → slice_get (map key things ++ key thing ∷ []) j ≡ Some q → number_at n q ≡ Some j
  all_after q j true e h =
      let at_end : number_at n q ≡ Some (length things) = number_after m n k (length things) puts q true e in
      let same : key thing ≡ q = sym is ∙ same_keys k.items q e in
      elim (get_among (map key things) (key thing) j q h) [
        | inl old ↦ let there = index.all q j old in let gone : number_at m q ≡ None = subst (λ y. number_at m y ≡ None) same none in absurd (cc (there, gone))
        | inr new ↦ at_end ∙ ap (λ i. Some i) (sym (length-map things key) ∙ sym new.0)
      ]
  all_after q j false e h =
      let before : number_at n q ≡ number_at m q = number_after m n k (length things) puts q false e in
      elim (get_among (map key things) (key thing) j q h) [
        | inl old ↦ before ∙ index.all q j old
        | inr new ↦ let z : pointwise nat_eq k.items q ≡ true = ap (λ y. pointwise nat_eq k.items y) (sym (is ∙ new.1)) ∙ key_itself k.items in absurd (cc (z, e))
      ]

  -- one thing more
  pub index_after : IsIndex key n (things ++ thing ∷ [])
  index_after = record {
    found = λ q j h. subst (λ ks. slice_get ks j ≡ Some q) (sym (map_push key things thing)) (found_after q j (pointwise nat_eq k.items q) refl h);
    all = λ q j h. all_after q j (pointwise nat_eq k.items q) refl (subst (λ ks. slice_get ks j ≡ Some q) (map_push key things thing) h);
  }

-- what a look-up answers, of a list `xs` that is the things
pub finds : {T Z S : Type 0} (key : T → List ℕ) (m : HashMap (Vec ℕ Z) ℕ S) (things xs : List T) (thing : T) (q : List ℕ) → IsIndex key m things → xs ≡ things → q ≡ key thing
    → (o : Option ℕ) → o ≡ number_at m q → MatchOption o ((n : ℕ) → IsNumberOf key xs n thing → ⊥) (λ n. IsNumberOf key xs n thing)
finds key m things xs thing q index same is None e =
    λ n there. no_number key m things thing n index (subst (λ k. number_at m k ≡ None) is (sym e)) (subst (λ ys. IsNumberOf key ys n thing) same there)
finds key m things xs thing q index same is (Some n) e =
    subst (λ ys. IsNumberOf key ys n thing) (sym same) (is_number key m things thing n index (subst (λ k. number_at m k ≡ Some n) is (sym e)))

-- an answer that an addition gives
pub added : {T : Type 0} (key : T → List ℕ) (old new : List T) (thing : T) (n : ℕ) → n ≡ length old → new ≡ old ++ thing ∷ [] → IsNumberOf key new n thing
added key old new thing n e f = (thing, ap₂ (λ (xs : List _) i. slice_get xs i) f e ∙ get_last old thing, refl)
