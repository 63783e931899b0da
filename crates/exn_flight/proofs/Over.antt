-- A throw is over: its exception is in flight no more.
use Rattle.std.proofs.Common.{◌≡◌, ◌≢◌, ℕ, ◌<◌, ◌≤◌, ◌==◌, true, false, not, nat_eq, List, length, Option, Some, None, IsSome, refl, ap, sym, subst, ◌∙◌, arith, eq-eqb, set, inl, inr}
use Rattle.std.specs.Option.{option_eq}
use Rattle.std.proofs.lemmas.Bool.{cases_eq, cases_order, eqb-true, not-true, not-false, both_ways}
use Rattle.std.proofs.lemmas.List.{get_or-set_same, get_or-set_other, length-set}
use Rattle.hs_base.specs.declared.exn.Exn.{Exn}
use Rattle.exn_flight.specs.declared.throws.Throw.{Throw}
use Rattle.exn_flight.specs.Tables.{IsPut}
use Rattle.exn_flight.specs.Throwing.{throw_at, no_throw, IsLive, AreLinked, AreFirstsBut, IsFirst, AreFirsts, AreLasts, AreAt, NoneBehind, IsNextLive, HasSearched}
use Rattle.exn_flight.proofs.Growing.{live_within, not_none, same_some, put_here, put_there}

pub dead : (o : Option Exn) → o ≡ None → IsSome o → ⊥
dead None e l = let no : ⊥ = cc in no
dead (Some x) e l = not_none (Some x) x refl e

-- the new list is the old one, but this throw is over
pub record Over (ts us : List Throw) (p : ℕ) : Type 0 where
  pub size : length us ≡ length ts
  pub gone : (throw_at us p).exn ≡ None
  pub thrower : (k : ℕ) → (throw_at us k).thrower ≡ (throw_at ts k).thrower
  pub target : (k : ℕ) → (throw_at us k).target ≡ (throw_at ts k).target
  pub next : (k : ℕ) → (throw_at us k).next ≡ (throw_at ts k).next
  pub exn : (k : ℕ) → k ≢ p → (throw_at us k).exn ≡ (throw_at ts k).exn

-- what a throw says besides the exception
over_as : {A : Type 0} (f : Throw → A) → ((t : Throw) → f (record t { exn = None }) ≡ f t) → (ts : List Throw) (p k : ℕ) → p < length ts → f (throw_at (set ts p (record (throw_at ts p) { exn = None })) k) ≡ f (throw_at ts k)
over_as f same ts p k b =
    let y : Throw = record (throw_at ts p) { exn = None } in
    elim (cases_eq k p) [
      | inl e ↦ ap (λ i. f (throw_at (set ts p y) i)) e ∙ ap f (get_or-set_same ts p y no_throw b) ∙ same (throw_at ts p) ∙ ap (λ i. f (throw_at ts i)) (sym e)
      | inr ne ↦ ap f (get_or-set_other ts p k y no_throw ne)
    ]

pub over : (ts : List Throw) (p : ℕ) → p < length ts → Over ts (set ts p (record (throw_at ts p) { exn = None })) p
over ts p b =
    let y : Throw = record (throw_at ts p) { exn = None } in
    record {
      size = length-set ts p y;
      gone = ap (λ (t : Throw). t.exn) (get_or-set_same ts p y no_throw b);
      thrower = λ k. over_as (λ (t : Throw). t.thrower) (λ t. refl) ts p k b;
      target = λ k. over_as (λ (t : Throw). t.target) (λ t. refl) ts p k b;
      next = λ k. over_as (λ (t : Throw). t.next) (λ t. refl) ts p k b;
      exn = λ k ne. ap (λ (t : Throw). t.exn) (get_or-set_other ts p k y no_throw ne);
    }

-- as the code writes it, with what was read
pub over_is : (ts : List Throw) (p : ℕ) (r : Throw) (o : Option Exn) → r ≡ throw_at ts p → o ≡ None → set ts p (record r { exn = o }) ≡ set ts p (record (throw_at ts p) { exn = None })
over_is ts p r o e q = ap (λ x. set ts p (record r { exn = x })) q ∙ ap (λ (x : Throw). set ts p (record x { exn = None })) e

-- what is in flight now was in flight, and is not at the place that is over
was_live : (ts us : List Throw) (p : ℕ) → Over ts us p → (k : ℕ) → IsLive us k → (k ≢ p) × IsLive ts k
was_live ts us p h k l =
    let other : k ≢ p = λ e. dead (throw_at us k).exn (ap (λ i. (throw_at us i).exn) e ∙ h.gone) l in
    (other, subst IsSome (h.exn k other) l)

still_live : (ts us : List Throw) (p : ℕ) → Over ts us p → (k : ℕ) → k ≢ p → IsLive ts k → IsLive us k
still_live ts us p h k ne l = subst IsSome (sym (h.exn k ne)) l

pub at_over : (ts us : List Throw) (p : ℕ) → Over ts us p → (f g : ℕ → Option ℕ) → AreAt ts f → IsLive ts p → IsPut f g (throw_at ts p).thrower None → AreAt us g
at_over ts us p h f g a live q =
    let t0 = (throw_at ts p).thrower in
    record {
      place = λ t i e. elim (cases_eq t0 t) [
        | inl s ↦ absurd (not_none (g t) i e (put_here f g t0 None q t s))
        | inr ne ↦ (let was = a.place t i (sym (put_there f g t0 None q t ne) ∙ e) in
            let other : i ≢ p = λ s. ne (ap (λ j. (throw_at ts j).thrower) (sym s) ∙ was.1) in
            (still_live ts us p h i other was.0, h.thrower i ∙ was.1))
      ];
      thrower = λ i l.
          (let w = was_live ts us p h i l in
          let was = a.thrower i w.1 in
          let other : t0 ≡ (throw_at ts i).thrower → ⊥ = λ s. w.0 (same_some i p (sym was ∙ ap f (sym s) ∙ a.thrower p live)) in
          ap g (h.thrower i) ∙ put_there f g t0 None q _ other ∙ was);
    }

pub firsts_over : (ts us : List Throw) (p : ℕ) → Over ts us p → (f : ℕ → Option ℕ) → AreFirsts ts f → AreFirstsBut p us f
firsts_over ts us p h f a =
    record {
      some = λ u i e. (let was = a.some u i e in
          record {
            live = λ ne. still_live ts us p h i ne was.live;
            target = h.target i ∙ was.target;
            before = λ k low l t. was.before k low (was_live ts us p h k l).1 (sym (h.target k) ∙ t);
          });
      none = λ u e k l t. a.none u e k (was_live ts us p h k l).1 (sym (h.target k) ∙ t);
    }

pub lasts_over : (ts us : List Throw) (p : ℕ) → Over ts us p → (f : ℕ → Option ℕ) → AreLasts ts f → AreLasts us f
lasts_over ts us p h f a =
    record {
      some = λ u i e. (let was = a.some u i e in
          record {
            within = omega (arith, h.size, was.within);
            target = h.target i ∙ was.target;
            behind = λ k low lt t. was.behind k low (omega (arith, h.size, lt)) (sym (h.target k) ∙ t);
          });
      none = λ u e k lt t. a.none u e k (omega (arith, h.size, lt)) (sym (h.target k) ∙ t);
    }

pub links_over : (ts us : List Throw) (p : ℕ) → Over ts us p → AreLinked ts → AreLinked us
links_over ts us p h a i lt =
    let was = a i (omega (arith, h.size, lt)) in
    let next = h.next i in
    record {
      behind = λ some. (let b = was.behind (λ z. some (next ∙ z)) in
          (omega (arith, next, b.0), omega (arith, next, h.size, b.1), ap (λ j. (throw_at us j).target) next ∙ h.target _ ∙ b.2 ∙ sym (h.target i)));
      between = λ k low under before t. was.between k low (omega (arith, h.size, under)) (λ some. subst (λ m. k < m) next (before (λ z. some (sym next ∙ z)))) (sym (h.target k) ∙ t ∙ h.target i);
    }

-- ---- the next in flight at the target is the first there
pub is_some_place : (o : Option ℕ) (p : ℕ) → false ≡ not (option_eq nat_eq o (Some p)) → o ≡ Some p
is_some_place None p h = let no : ⊥ = cc in absurd no
is_some_place (Some i) p h = ap Some (eqb-true i p (not-false (i == p) (sym h)))

pub is_other_place : (o : Option ℕ) (p : ℕ) → true ≡ not (option_eq nat_eq o (Some p)) → o ≡ Some p → ⊥
is_other_place None p h e = let no : ⊥ = cc in no
is_other_place (Some i) p h e = both_ways (i == p) (not-true (i == p) (sym h)) (eq-eqb i p (same_some i p e))

pub not_first : (ts : List Throw) (f : ℕ → Option ℕ) (p : ℕ) → AreFirstsBut p ts f → (f (throw_at ts p).target ≡ Some p → ⊥) → AreFirsts ts f
not_first ts f p a other =
    record {
      some = λ u i e. (let was = a.some u i e in
          record {
            live = was.live (λ q. other (ap f (ap (λ j. (throw_at ts j).target) (sym q) ∙ was.target) ∙ e ∙ ap Some q));
            target = was.target;
            before = was.before;
          });
      none = a.none;
    }

-- none before is in flight to the target, nor is this one
none_so_far : (ts : List Throw) (f : ℕ → Option ℕ) (p : ℕ) → AreFirstsBut p ts f → f (throw_at ts p).target ≡ Some p → (throw_at ts p).exn ≡ None → (k : ℕ) → IsLive ts k → k ≤ p → (throw_at ts k).target ≢ (throw_at ts p).target
none_so_far ts f p a here gone k l le t =
    elim (cases_eq k p) [
      | inl e ↦ dead (throw_at ts k).exn (ap (λ i. (throw_at ts i).exn) e ∙ gone) l
      | inr ne ↦ (a.some _ p here).before k (omega (arith, le, ne)) l t
    ]

pub next_is_first : (ts : List Throw) (f g : ℕ → Option ℕ) (p i : ℕ) → AreFirstsBut p ts f → f (throw_at ts p).target ≡ Some p → (throw_at ts p).exn ≡ None → IsNextLive ts p i → IsPut f g (throw_at ts p).target (Some i) → AreFirsts ts g
next_is_first ts f g p i a here gone n q =
    let u0 = (throw_at ts p).target in
    record {
      some = λ u j e. elim (cases_eq u0 u) [
        | inl s ↦ (let same : i ≡ j = same_some i j (sym (put_here f g u0 (Some i) q u s) ∙ e) in
            subst (λ m. IsFirst ts u m) same (record {
              live = n.live;
              target = n.target ∙ s;
              before = λ k low l t. elim (cases_order k p) [
                | inl z ↦ none_so_far ts f p a here gone k l (omega (arith, z)) (t ∙ sym s)
                | inr (inl z) ↦ none_so_far ts f p a here gone k l (omega (arith, z)) (t ∙ sym s)
                | inr (inr z) ↦ n.between k z low l (t ∙ sym s)
              ];
            }))
        | inr ne ↦ (let was = a.some u j (sym (put_there f g u0 (Some i) q u ne) ∙ e) in
            record { live = was.live (λ z. ne (ap (λ m. (throw_at ts m).target) (sym z) ∙ was.target)); target = was.target; before = was.before })
      ];
      none = λ u e. elim (cases_eq u0 u) [
        | inl s ↦ absurd (not_none (g u) i (put_here f g u0 (Some i) q u s) e)
        | inr ne ↦ a.none u (sym (put_there f g u0 (Some i) q u ne) ∙ e)
      ];
    }

pub none_is_first : (ts : List Throw) (f g : ℕ → Option ℕ) (p : ℕ) → AreFirstsBut p ts f → f (throw_at ts p).target ≡ Some p → (throw_at ts p).exn ≡ None → NoneBehind ts p → IsPut f g (throw_at ts p).target None → AreFirsts ts g
none_is_first ts f g p a here gone n q =
    let u0 = (throw_at ts p).target in
    record {
      some = λ u j e. elim (cases_eq u0 u) [
        | inl s ↦ absurd (not_none (g u) j e (put_here f g u0 None q u s))
        | inr ne ↦ (let was = a.some u j (sym (put_there f g u0 None q u ne) ∙ e) in
            record { live = was.live (λ z. ne (ap (λ m. (throw_at ts m).target) (sym z) ∙ was.target)); target = was.target; before = was.before })
      ];
      none = λ u e. elim (cases_eq u0 u) [
        | inl s ↦ λ k l t. elim (cases_order k p) [
          | inl z ↦ none_so_far ts f p a here gone k l (omega (arith, z)) (t ∙ sym s)
          | inr (inl z) ↦ none_so_far ts f p a here gone k l (omega (arith, z)) (t ∙ sym s)
          | inr (inr z) ↦ n k z l (t ∙ sym s)
        ]
        | inr ne ↦ a.none u (sym (put_there f g u0 None q u ne) ∙ e)
      ];
    }

-- ---- the search
pub searched_first : (ts : List Throw) (p : ℕ) → AreLinked ts → p < length ts → HasSearched ts p (throw_at ts p).next
searched_first ts p a lt =
    let was = a p lt in
    record { behind = was.behind; passed = λ k low l before. was.between k low (live_within ts k l) before }
