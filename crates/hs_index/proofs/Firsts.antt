-- Where the first of each name stands when one more comes behind.
use Rattle.std.proofs.Common.{◌≡◌, ℕ, suc, ◌+◌, List, [], ◌∷◌, ◌++◌, length, Bool, true, false, cond, Option, Some, None, refl, ap, ◌∙◌, sym}
use Rattle.std.proofs.lemmas.List.{length_push}
use Rattle.std.specs.Option.{option_or}
use Rattle.std.specs.Str.{bytes_eq}
use Rattle.std.specs.BTreeMap.{get_by_text}
use Rattle.hs_index.specs.Indexing.{next, first_among, Indexes}
use Rattle.hs_index.specs.declared.index.Index.{Index}

behind_one : (b c : Bool) (o : Option ℕ) (n : ℕ)
    → cond b (Some 0) (next (option_or o (cond c (Some n) None))) ≡ option_or (cond b (Some 0) (next o)) (cond c (Some (suc n)) None)
behind_one true c o n = refl
behind_one false true None n = refl
behind_one false false None n = refl
behind_one false c (Some k) n = refl

behind_none : (c : Bool) → cond c (Some 0) (next None) ≡ cond c (Some 0) None
behind_none true = refl
behind_none false = refl

-- the new name is found only where none of the others is
pub first_behind : (names : List (List ℕ)) (name x : List ℕ)
    → first_among (names ++ name ∷ []) x ≡ option_or (first_among names x) (cond (bytes_eq name x) (Some (length names)) None)
first_behind [] name x = behind_none (bytes_eq name x)
first_behind (y ∷ ys) name x =
    ap (λ o. cond (bytes_eq y x) (Some 0) (next o)) (first_behind ys name x) ∙ behind_one (bytes_eq y x) (bytes_eq name x) (first_among ys x) (length ys)

-- an index where the place behind all is put for a name that has none
pub indexes_behind : (old new : Index) (names : List (List ℕ)) (name : List ℕ) → Indexes old names → new.count ≡ old.count + 1
    → ((x : List ℕ) → get_by_text new.firsts x ≡ option_or (get_by_text old.firsts x) (cond (bytes_eq name x) (Some old.count) None))
    → Indexes new (names ++ name ∷ [])
indexes_behind old new names name i more puts = record {
  count = more ∙ (ap (λ n. n + 1) i.count ∙ sym (length_push names name));
  first = λ x. puts x
      ∙ (ap (λ o. option_or o (cond (bytes_eq name x) (Some old.count) None)) (i.first x)
      ∙ (ap (λ n. option_or (first_among names x) (cond (bytes_eq name x) (Some n) None)) i.count
      ∙ sym (first_behind names name x)));
}
