-- A throw is added, last in order.
use Rattle.std.proofs.Common.{◌≡◌, ◌≢◌, ◌⊎◌, ℕ, zero, suc, ◌<◌, cond, List, [], ◌∷◌, ◌++◌, length, Option, Some, None, MatchOption, IsSome, refl, ap, sym, subst, ◌∙◌, arith, eq-eqb, set, inl, inr}
use Rattle.std.proofs.lemmas.Bool.{cases_eq, cases_lt, ne_eqb}
use Rattle.std.proofs.lemmas.List.{get_or-set_same, get_or-set_other, get_or_append_left, get_or_push, length-set, length-append}
use Rattle.exn_flight.specs.declared.throws.Throw.{Throw}
use Rattle.exn_flight.specs.Tables.{IsPut, IsPutFirst, or_place}
use Rattle.exn_flight.specs.Throwing.{throw_at, no_throw, followed, IsLive, IsFollowed, AreLinked, IsFirst, AreFirsts, IsLast, AreLasts, AreAt, AreThrows}

pub live_within : (ts : List Throw) (k : ℕ) → IsLive ts k → k < length ts
live_within [] k h = let no : ⊥ = cc in absurd no
live_within (t ∷ ts) zero h = omega arith
live_within (t ∷ ts) (suc k) h = omega (arith, live_within ts k h)

pub not_none : {A : Type 0} (o : Option A) (a : A) → o ≡ Some a → o ≡ None → ⊥
not_none o a p q = let no : Some a ≡ None = sym p ∙ q in let none : ⊥ = cc in none

pub same_some : (i j : ℕ) → Some i ≡ Some j → i ≡ j
same_some i j h = cc

-- ---- what a table holds after a change at one thread
pub put_here : (f g : ℕ → Option ℕ) (t : ℕ) (o : Option ℕ) → IsPut f g t o → (q : ℕ) → t ≡ q → g q ≡ o
put_here f g t o h q e = h q ∙ ap (λ b. cond b o (f q)) (eq-eqb t q e)

pub put_there : (f g : ℕ → Option ℕ) (t : ℕ) (o : Option ℕ) → IsPut f g t o → (q : ℕ) → (t ≡ q → ⊥) → g q ≡ f q
put_there f g t o h q ne = h q ∙ ap (λ b. cond b o (f q)) (ne_eqb t q ne)

-- ---- the last throw is followed by another
abbrev pub IsWithin : List Throw → Option ℕ → Type 0
IsWithin ts last = MatchOption last (Unit {0}) (λ i. i < length ts)

-- what a throw says besides the next
followed_as : {A : Type 0} (f : Throw → A) → ((t : Throw) (n : ℕ) → f (record t { next = n }) ≡ f t) → (ts : List Throw) (last : Option ℕ) (place k : ℕ) → IsWithin ts last → f (throw_at (followed ts last place) k) ≡ f (throw_at ts k)
followed_as f same ts None place k b = refl
followed_as f same ts (Some l) place k b =
    let y : Throw = record (throw_at ts l) { next = place } in
    elim (cases_eq k l) [
      | inl e ↦ ap (λ i. f (throw_at (set ts l y) i)) e ∙ ap f (get_or-set_same ts l y no_throw b) ∙ same (throw_at ts l) place ∙ ap (λ i. f (throw_at ts i)) (sym e)
      | inr ne ↦ ap f (get_or-set_other ts l k y no_throw ne)
    ]

followed_length : (ts : List Throw) (last : Option ℕ) (place : ℕ) → length (followed ts last place) ≡ length ts
followed_length ts None place = refl
followed_length ts (Some l) place = length-set ts l (record (throw_at ts l) { next = place })

followed_next : (ts : List Throw) (last : Option ℕ) (place k : ℕ) → (last ≡ Some k → ⊥) → (throw_at (followed ts last place) k).next ≡ (throw_at ts k).next
followed_next ts None place k other = refl
followed_next ts (Some l) place k other = ap (λ (t : Throw). t.next) (get_or-set_other ts l k (record (throw_at ts l) { next = place }) no_throw (λ e. other (ap Some (sym e))))

followed_last : (ts : List Throw) (last : Option ℕ) (place k : ℕ) → IsWithin ts last → last ≡ Some k → (throw_at (followed ts last place) k).next ≡ place
followed_last ts None place k b e = let no : ⊥ = cc in absurd no
followed_last ts (Some l) place k b e =
    let same : l ≡ k = same_some l k e in
    subst (λ i. (throw_at (followed ts (Some l) place) i).next ≡ place) same (ap (λ (t : Throw). t.next) (get_or-set_same ts l (record (throw_at ts l) { next = place }) no_throw b))

-- ---- the new list is the old one with a throw more, which follows the last one
pub record Grown (ts us : List Throw) (x : Throw) (last : Option ℕ) : Type 0 where
  pub size : length us ≡ suc (length ts)
  pub new : throw_at us (length ts) ≡ x
  pub thrower : (k : ℕ) → k < length ts → (throw_at us k).thrower ≡ (throw_at ts k).thrower
  pub target : (k : ℕ) → k < length ts → (throw_at us k).target ≡ (throw_at ts k).target
  pub exn : (k : ℕ) → k < length ts → (throw_at us k).exn ≡ (throw_at ts k).exn
  pub next : (k : ℕ) → k < length ts → (last ≡ Some k → ⊥) → (throw_at us k).next ≡ (throw_at ts k).next
  pub linked : (k : ℕ) → k < length ts → last ≡ Some k → (throw_at us k).next ≡ length ts

pub grown : (ts : List Throw) (x : Throw) (last : Option ℕ) → IsWithin ts last → Grown ts (followed ts last (length ts) ++ x ∷ []) x last
grown ts x last b =
    let n = length ts in
    let vs = followed ts last n in
    let size : length vs ≡ n = followed_length ts last n in
    let old : (k : ℕ) → k < n → throw_at (vs ++ x ∷ []) k ≡ throw_at vs k = λ k lt. get_or_append_left vs (x ∷ []) no_throw k (omega (arith, lt, size)) in
    record {
      size = length-append vs (x ∷ []) ∙ omega (arith, size);
      new = get_or_push vs x no_throw n size;
      thrower = λ k lt. ap (λ (t : Throw). t.thrower) (old k lt) ∙ followed_as (λ (t : Throw). t.thrower) (λ t m. refl) ts last n k b;
      target = λ k lt. ap (λ (t : Throw). t.target) (old k lt) ∙ followed_as (λ (t : Throw). t.target) (λ t m. refl) ts last n k b;
      exn = λ k lt. ap (λ (t : Throw). t.exn) (old k lt) ∙ followed_as (λ (t : Throw). t.exn) (λ t m. refl) ts last n k b;
      next = λ k lt other. ap (λ (t : Throw). t.next) (old k lt) ∙ followed_next ts last n k other;
      linked = λ k lt e. ap (λ (t : Throw). t.next) (old k lt) ∙ followed_last ts last n k b e;
    }

-- a place of the new list is the new one, or an old one
pub old_or_new : (ts us : List Throw) (x : Throw) (last : Option ℕ) → Grown ts us x last → (k : ℕ) → k < length us → (k ≡ length ts) ⊎ (k < length ts)
old_or_new ts us x last g k lt =
    elim (cases_lt k (length ts)) [ inl low ↦ inr low | inr high ↦ inl (omega (arith, g.size, lt, high)) ]

pub live_old : (ts us : List Throw) (x : Throw) (last : Option ℕ) → Grown ts us x last → (k : ℕ) → IsLive ts k → IsLive us k
live_old ts us x last g k h = subst IsSome (sym (g.exn k (live_within ts k h))) h

pub live_new : (ts us : List Throw) (x : Throw) (last : Option ℕ) → Grown ts us x last → (k : ℕ) → IsLive us k → k < length ts → IsLive ts k
live_new ts us x last g k h lt = subst IsSome (g.exn k lt) h

-- ---- the tables
at_grown : (ts us : List Throw) (x : Throw) (last : Option ℕ) → Grown ts us x last → (f g : ℕ → Option ℕ) → AreAt ts f → IsSome x.exn → f x.thrower ≡ None → IsPut f g x.thrower (Some (length ts)) → AreAt us g
at_grown ts us x last h f g a live alone p =
    let n = length ts in
    record {
      place = λ t i e. elim (cases_eq x.thrower t) [
        | inl q ↦ (let same : n ≡ i = same_some n i (sym (put_here f g x.thrower (Some n) p t q) ∙ e) in
            (subst (λ j. IsLive us j) same (subst (λ (y : Throw). IsSome y.exn) (sym h.new) live), ap (λ j. (throw_at us j).thrower) (sym same) ∙ ap (λ (y : Throw). y.thrower) h.new ∙ q))
        | inr ne ↦ (let was = a.place t i (sym (put_there f g x.thrower (Some n) p t ne) ∙ e) in
            (live_old ts us x last h i was.0, h.thrower i (live_within ts i was.0) ∙ was.1))
      ];
      thrower = λ i l. elim (old_or_new ts us x last h i (live_within us i l)) [
        | inl q ↦ (let t : x.thrower ≡ (throw_at us i).thrower = sym (ap (λ j. (throw_at us j).thrower) q ∙ ap (λ (y : Throw). y.thrower) h.new) in
            put_here f g x.thrower (Some n) p _ t ∙ ap Some (sym q))
        | inr lt ↦ (let was = a.thrower i (live_new ts us x last h i l lt) in
            let t = h.thrower i lt in
            ap g t ∙ put_there f g x.thrower (Some n) p _ (λ q. not_none (f x.thrower) i (ap f q ∙ was) alone) ∙ was)
      ];
    }

first_old : (ts us : List Throw) (x : Throw) (last : Option ℕ) → Grown ts us x last → (u i : ℕ) → IsFirst ts u i → IsFirst us u i
first_old ts us x last h u i a =
    let lt = live_within ts i a.live in
    record {
      live = live_old ts us x last h i a.live;
      target = h.target i lt ∙ a.target;
      before = λ k low l q. a.before k low (live_new ts us x last h k l (omega (arith, low, lt))) (sym (h.target k (omega (arith, low, lt))) ∙ q);
    }

firsts_here : (ts us : List Throw) (x : Throw) (last : Option ℕ) → Grown ts us x last → (f : ℕ → Option ℕ) → AreFirsts ts f → IsSome x.exn → (i : ℕ) (o : Option ℕ) → f x.target ≡ o → or_place o (length ts) ≡ Some i → IsFirst us x.target i
firsts_here ts us x last h f a live i None e q =
    let same : length ts ≡ i = same_some (length ts) i q in
    subst (λ j. IsFirst us x.target j) same (record {
      live = subst (λ (y : Throw). IsSome y.exn) (sym h.new) live;
      target = ap (λ (y : Throw). y.target) h.new;
      before = λ k low l p. a.none x.target e k (live_new ts us x last h k l low) (sym (h.target k low) ∙ p);
    })
firsts_here ts us x last h f a live i (Some j) e q =
    first_old ts us x last h x.target i (a.some x.target i (e ∙ q))

or_place_some : (o : Option ℕ) (n : ℕ) → or_place o n ≡ None → ⊥
or_place_some None n e = let no : ⊥ = cc in no
or_place_some (Some j) n e = let no : ⊥ = cc in no

firsts_grown : (ts us : List Throw) (x : Throw) (last : Option ℕ) → Grown ts us x last → (f g : ℕ → Option ℕ) → AreFirsts ts f → IsSome x.exn → IsPutFirst f g x.target (length ts) → AreFirsts us g
firsts_grown ts us x last h f g a live p =
    let o = or_place (f x.target) (length ts) in
    record {
      some = λ u i e. elim (cases_eq x.target u) [
        | inl q ↦ subst (λ v. IsFirst us v i) q (firsts_here ts us x last h f a live i (f x.target) refl (sym (put_here f g x.target o p u q) ∙ e))
        | inr ne ↦ first_old ts us x last h u i (a.some u i (sym (put_there f g x.target o p u ne) ∙ e))
      ];
      none = λ u e. elim (cases_eq x.target u) [
        | inl q ↦ absurd (or_place_some (f x.target) (length ts) (sym (put_here f g x.target o p u q) ∙ e))
        | inr ne ↦ λ k l t. elim (old_or_new ts us x last h k (live_within us k l)) [
          | inl q ↦ ne (sym (ap (λ j. (throw_at us j).target) q ∙ ap (λ (y : Throw). y.target) h.new) ∙ t)
          | inr lt ↦ a.none u (sym (put_there f g x.target o p u ne) ∙ e) k (live_new ts us x last h k l lt) (sym (h.target k lt) ∙ t)
        ]
      ];
    }

lasts_grown : (ts us : List Throw) (x : Throw) (last : Option ℕ) → Grown ts us x last → (f g : ℕ → Option ℕ) → AreLasts ts f → IsPut f g x.target (Some (length ts)) → AreLasts us g
lasts_grown ts us x last h f g a p =
    let n = length ts in
    record {
      some = λ u i e. elim (cases_eq x.target u) [
        | inl q ↦ (let same : n ≡ i = same_some n i (sym (put_here f g x.target (Some n) p u q) ∙ e) in
            record {
              within = omega (arith, h.size, same);
              target = ap (λ j. (throw_at us j).target) (sym same) ∙ ap (λ (y : Throw). y.target) h.new ∙ q;
              behind = λ k low lt t. (let no : ⊥ = omega (arith, h.size, same, low, lt) in no);
            })
        | inr ne ↦ (let was = a.some u i (sym (put_there f g x.target (Some n) p u ne) ∙ e) in
            record {
              within = omega (arith, h.size, was.within);
              target = h.target i was.within ∙ was.target;
              behind = λ k low lt t. elim (old_or_new ts us x last h k lt) [
                | inl q ↦ ne (sym (ap (λ j. (throw_at us j).target) q ∙ ap (λ (y : Throw). y.target) h.new) ∙ t)
                | inr old ↦ was.behind k low old (sym (h.target k old) ∙ t)
              ];
            })
      ];
      none = λ u e. elim (cases_eq x.target u) [
        | inl q ↦ absurd (not_none (g u) n (put_here f g x.target (Some n) p u q) e)
        | inr ne ↦ λ k lt t. elim (old_or_new ts us x last h k lt) [
          | inl q ↦ ne (sym (ap (λ j. (throw_at us j).target) q ∙ ap (λ (y : Throw). y.target) h.new) ∙ t)
          | inr old ↦ a.none u (sym (put_there f g x.target (Some n) p u ne) ∙ e) k old (sym (h.target k old) ∙ t)
        ]
      ];
    }

-- ---- the links
-- the new throw is the next of the last one at its target
linked_here : (ts us : List Throw) (x : Throw) (l : ℕ) → Grown ts us x (Some l) → IsLast ts x.target l → IsFollowed us (throw_at us l).target l (throw_at us l).next
linked_here ts us x l h a =
    let n = length ts in
    let next : (throw_at us l).next ≡ n = h.linked l a.within refl in
    let target : (throw_at us l).target ≡ x.target = h.target l a.within ∙ a.target in
    record {
      behind = λ some. (omega (arith, next, a.within), omega (arith, next, h.size), ap (λ j. (throw_at us j).target) next ∙ ap (λ (y : Throw). y.target) h.new ∙ sym target);
      between = λ k low lt before t.
          (let under : k < (throw_at us l).next = before (λ z. (let no : ⊥ = omega (arith, z, next, a.within) in no)) in
          let old : k < n = omega (arith, under, next) in
          a.behind k low old (sym (h.target k old) ∙ t ∙ target));
    }

-- all others are followed as before
linked_there : (ts us : List Throw) (x : Throw) (last : Option ℕ) → Grown ts us x last → AreLinked ts → (i : ℕ) → i < length ts → (last ≡ Some i → ⊥) → ((throw_at ts i).next ≡ 0 → (throw_at ts i).target ≢ x.target) → IsFollowed us (throw_at us i).target i (throw_at us i).next
linked_there ts us x last h a i lt other alone =
    let n = length ts in
    let was = a i lt in
    let next : (throw_at us i).next ≡ (throw_at ts i).next = h.next i lt other in
    let target : (throw_at us i).target ≡ (throw_at ts i).target = h.target i lt in
    record {
      behind = λ some.
          (let b = was.behind (λ z. some (next ∙ z)) in
          (omega (arith, next, b.0), omega (arith, next, h.size, b.1), ap (λ j. (throw_at us j).target) next ∙ h.target _ b.1 ∙ b.2 ∙ sym target));
      between = λ k low under before t. elim (old_or_new ts us x last h k under) [
        | inl q ↦ elim (cases_eq (throw_at ts i).next 0) [
          | inl z ↦ alone z (sym target ∙ sym t ∙ ap (λ j. (throw_at us j).target) q ∙ ap (λ (y : Throw). y.target) h.new)
          | inr nz ↦ (let b = was.behind nz in
              let far : k < (throw_at us i).next = before (λ z. nz (sym next ∙ z)) in
              let no : ⊥ = omega (arith, q, b.1, far, next) in no)
        ]
        | inr old ↦ was.between k low old (λ some. subst (λ m. k < m) next (before (λ z. some (sym next ∙ z)))) (sym (h.target k old) ∙ t ∙ target)
      ];
    }

linked_new : (ts us : List Throw) (x : Throw) (last : Option ℕ) → Grown ts us x last → x.next ≡ 0 → (i : ℕ) → i ≡ length ts → IsFollowed us (throw_at us i).target i (throw_at us i).next
linked_new ts us x last h end i q =
    let next : (throw_at us i).next ≡ 0 = ap (λ j. (throw_at us j).next) q ∙ ap (λ (y : Throw). y.next) h.new ∙ end in
    record {
      behind = λ some. absurd (some next);
      between = λ k low under before t. (let no : ⊥ = omega (arith, h.size, q, low, under) in no);
    }

-- a throw with none behind it is not at this target, unless it is the last there
alone_at : (ts : List Throw) (f : ℕ → Option ℕ) (u i : ℕ) (last : Option ℕ) → AreLasts ts f → AreLinked ts → f u ≡ last → i < length ts → (last ≡ Some i → ⊥) → (throw_at ts i).next ≡ 0 → (throw_at ts i).target ≢ u
alone_at ts f u i None a l e lt other z t = a.none u e i lt t
alone_at ts f u i (Some j) a l e lt other z t =
    let was = a.some u j e in
    elim (cases_lt i j) [
      | inl low ↦ (l i lt).between j low was.within (λ some. absurd (some z)) (was.target ∙ sym t)
      | inr high ↦ was.behind i (omega (arith, high, (λ (q : i ≡ j). other (ap Some (sym q))))) lt t
    ]

links_grown : (ts us : List Throw) (x : Throw) (last : Option ℕ) → Grown ts us x last → (f : ℕ → Option ℕ) → AreLasts ts f → AreLinked ts → f x.target ≡ last → x.next ≡ 0 → AreLinked us
links_grown ts us x None h f a l e end i lt =
    elim (old_or_new ts us x None h i lt) [
      | inl q ↦ linked_new ts us x None h end i q
      | inr old ↦ (let other : None ≡ Some i → ⊥ = λ q. (let no : ⊥ = cc in no) in
          linked_there ts us x None h l i old other (alone_at ts f x.target i None a l e old other))
    ]
links_grown ts us x (Some j) h f a l e end i lt =
    elim (old_or_new ts us x (Some j) h i lt) [
      | inl q ↦ linked_new ts us x (Some j) h end i q
      | inr old ↦ elim (cases_eq j i) [
        | inl q ↦ subst (λ m. IsFollowed us (throw_at us m).target m (throw_at us m).next) q (linked_here ts us x j h (a.some x.target j e))
        | inr ne ↦ (let other : Some j ≡ Some i → ⊥ = λ q. ne (same_some j i q) in
            linked_there ts us x (Some j) h l i old other (alone_at ts f x.target i (Some j) a l e old other))
      ]
    ]

pub throws_grown : (ts us : List Throw) (x : Throw) (last : Option ℕ) → Grown ts us x last → (at at' first first' lasts lasts' : ℕ → Option ℕ) → AreThrows ts at first lasts → lasts x.target ≡ last → IsSome x.exn → x.next ≡ 0 → at x.thrower ≡ None
    → IsPut at at' x.thrower (Some (length ts)) → IsPutFirst first first' x.target (length ts) → IsPut lasts lasts' x.target (Some (length ts)) → AreThrows us at' first' lasts'
throws_grown ts us x last h at at' first first' lasts lasts' a e live end alone p q r =
    record {
      at = at_grown ts us x last h at at' a.at live alone p;
      first = firsts_grown ts us x last h first first' a.first live q;
      last = lasts_grown ts us x last h lasts lasts' a.last r;
      links = links_grown ts us x last h lasts a.last a.links e end;
    }

pub last_within : (ts : List Throw) (at first lasts : ℕ → Option ℕ) (u : ℕ) (last : Option ℕ) → AreThrows ts at first lasts → lasts u ≡ last → IsWithin ts last
last_within ts at first lasts u None a e = tt
last_within ts at first lasts u (Some i) a e = (a.last.some u i e).within
