-- The lists have each thread that has something to do.
use Rattle.std.proofs.Common.{◌≡◌, ◌≢◌, ℕ, zero, suc, ◌==◌, List, [], ◌∷◌, ◌++◌, length, Bool, true, false, cond, ◌&&◌, drop, is_some, Option, Some, None, slice_get, slice_set, refl, sym, ap, ◌∙◌, subst, ⊎_elim}
use Rattle.std.proofs.lemmas.Bool.{false_from_ne_true}
use Rattle.hs_base.specs.declared.exn.Exn.{Exn}
use Rattle.rules_waiting.specs.Waiting.{Flying, flying_to, first_thrown, withdrawn}
use Rattle.hs_rules.specs.Entries.{is_interruptible}
use Rattle.hs_laws.proofs.Lists.{cond_cases, cond_true, cond_false, equal_or, item_same, item_other}
use Rattle.exn_flight.specs.Flights.{after_delivery}
use Rattle.frame_stack.specs.declared.control.Control.{Control}
use Rattle.frame_stack.specs.declared.control.Control.TheVariants as c
use Rattle.frame_stack.specs.Parts.{IsThrow}
use Rattle.thread_table.specs.declared.thread.Thread.{Thread}
use Rattle.thread_table.specs.Table.{unlisted}
use Rattle.thread_table.specs.Listing.{mask_of, has_own, is_receptive, is_hit, wanted, wants, is_in, Listed, NobodyWants, Flagged, is_at_cell, waits_open}
use Rattle.thread_table.proofs.Table.{set_twice, thread_alike}

-- ---- numbers in a list
in_last : (t : ℕ) (q : List ℕ) → is_in t (q ++ t ∷ []) ≡ true
in_last t [] = ⊎_elim (λ e. cond_true (t == t) true false e.0) (λ e. absurd (e.1 refl)) (equal_or t t)
in_last t (u ∷ us) = cond_cases (λ b. b ≡ true) (u == t) true (is_in t (us ++ t ∷ [])) (λ e. refl) (λ e. in_last t us)

in_more : (u t : ℕ) (q : List ℕ) → is_in u q ≡ true → is_in u (q ++ t ∷ []) ≡ true
in_more u t [] h = absurd (cc h)
in_more u t (v ∷ vs) h =
    ⊎_elim
    (λ e. cond_true (v == u) true (is_in u (vs ++ t ∷ [])) e.0)
    (λ e. cond_false (v == u) true (is_in u (vs ++ t ∷ [])) e.0 ∙ in_more u t vs (sym (cond_false (v == u) true (is_in u vs) e.0) ∙ h))
    (equal_or v u)

in_more_of : (t : ℕ) (q : List ℕ) (u : ℕ) → is_in u q ≡ true → is_in u (q ++ t ∷ []) ≡ true
in_more_of t q u h = in_more u t q h

in_rest : (u t : ℕ) (q : List ℕ) → u ≢ t → is_in u (t ∷ q) ≡ true → is_in u q ≡ true
in_rest u t q n h = ⊎_elim (λ e. absurd (n (sym e.1))) (λ e. sym (cond_false (t == u) true (is_in u q) e.0) ∙ h) (equal_or t u)

pub both_cannot : {b : Bool} → b ≡ false → b ≡ true → ⊥
both_cannot {b} e h = let k : false ≡ true = sym e ∙ h in cc k

-- ---- a list that has each thread of which a test is true
abbrev pub Has : (ℕ → Option Thread → Bool) → List Thread → List ℕ → Type 0
Has p ths q = (t : ℕ) → p t (slice_get ths t) ≡ true → is_in t q ≡ true

-- a fact of each number, where another thread stands at one of them
pub at_each : (P : ℕ → Option Thread → Type 0) (ths : List Thread) (t : ℕ) (th y : Thread) → slice_get ths t ≡ Some th → P t (Some y) → ((u : ℕ) → u ≢ t → P u (slice_get ths u)) → (u : ℕ) → P u (slice_get (slice_set ths t y) u)
at_each P ths t th y h a b u =
    ⊎_elim
    (λ e. subst (λ v. P v (slice_get (slice_set ths t y) v)) (sym e.1) (subst (P t) (sym (item_same ths t th y h)) a))
    (λ e. subst (P u) (sym (item_other ths t u y e.1)) (b u e.1))
    (equal_or u t)

-- the thread is pushed, whatever the test says of it
pub has_pushed : (p : ℕ → Option Thread → Bool) (ths : List Thread) (q q' : List ℕ) (t : ℕ) (th y : Thread) → slice_get ths t ≡ Some th → q' ≡ q ++ t ∷ [] → Has p ths q → Has p (slice_set ths t y) q'
has_pushed p ths q q' t th y h e k =
    subst (Has p (slice_set ths t y)) (sym e)
    (at_each (λ u o. p u o ≡ true → is_in u (q ++ t ∷ []) ≡ true) ths t th y h (λ i. in_last t q) (λ u n i. in_more u t q (k u i)))

-- the test isn't true of it but where it was
pub has_still : (p : ℕ → Option Thread → Bool) (ths : List Thread) (q : List ℕ) (t : ℕ) (th y : Thread) → slice_get ths t ≡ Some th → (p t (Some y) ≡ true → p t (Some th) ≡ true) → Has p ths q → Has p (slice_set ths t y) q
has_still p ths q t th y h e k = at_each (λ u o. p u o ≡ true → is_in u q ≡ true) ths t th y h (λ i. k t (subst (λ o. p t o ≡ true) (sym h) (e i))) (λ u n i. k u i)

-- the test isn't true of it
pub has_not : (p : ℕ → Option Thread → Bool) (ths : List Thread) (q : List ℕ) (t : ℕ) (th y : Thread) → slice_get ths t ≡ Some th → p t (Some y) ≡ false → Has p ths q → Has p (slice_set ths t y) q
has_not p ths q t th y h e k = has_still p ths q t th y h (λ i. absurd (both_cannot e i)) k

-- the first of the list, of which the test isn't true, leaves it
pub has_popped : (p : ℕ → Option Thread → Bool) (ths : List Thread) (q : List ℕ) (t : ℕ) → p t (slice_get ths t) ≡ false → Has p ths (t ∷ q) → Has p ths q
has_popped p ths q t e k u i =
    ⊎_elim
    (λ j. absurd (both_cannot e (subst (λ v. p v (slice_get ths v) ≡ true) j.1 i)))
    (λ j. in_rest u t q j.1 (k u i))
    (equal_or u t)

-- the first of the list leaves it, and the test isn't true of it any more
pub has_taken : (p : ℕ → Option Thread → Bool) (ths : List Thread) (q : List ℕ) (t : ℕ) (th y : Thread) → slice_get ths t ≡ Some th → p t (Some y) ≡ false → Has p ths (t ∷ q) → Has p (slice_set ths t y) q
has_taken p ths q t th y h e k = at_each (λ u o. p u o ≡ true → is_in u q ≡ true) ths t th y h (λ i. absurd (both_cannot e i)) (λ u n i. in_rest u t q n (k u i))

pub has_none : (p : ℕ → Option Thread → Bool) (ths : List Thread) → Has p ths [] → (t : ℕ) → p t (slice_get ths t) ≡ false
has_none p ths k t = false_from_ne_true (p t (slice_get ths t)) (λ i. cc (k t i))

-- the first goes to the end
pub has_turned : (p : ℕ → Option Thread → Bool) (ths : List Thread) (q q' : List ℕ) (t : ℕ) → q' ≡ q ++ t ∷ [] → Has p ths (t ∷ q) → Has p ths q'
has_turned p ths q q' t e k =
    subst (Has p ths) (sym e) (λ u i. ⊎_elim
    (λ j. subst (λ v. is_in v (q ++ t ∷ []) ≡ true) (sym j.1) (in_last t q))
    (λ j. in_more u t q (in_rest u t q j.1 (k u i)))
    (equal_or u t))

-- written twice
pub has_twice : (p : ℕ → Option Thread → Bool) (ths : List Thread) (q : List ℕ) (t : ℕ) (y z : Thread) → Has p (slice_set ths t z) q → Has p (slice_set (slice_set ths t y) t z) q
has_twice p ths q t y z k = subst (λ l. Has p l q) (sym (set_twice ths t y z)) k

-- one thread more
item_last : (ths : List Thread) (y : Thread) (u : ℕ) → u ≢ length ths → slice_get (ths ++ y ∷ []) u ≡ slice_get ths u
item_last [] y zero n = absurd (n refl)
item_last [] y (suc u) n = refl
item_last (th ∷ ths) y zero n = refl
item_last (th ∷ ths) y (suc u) n = item_last ths y u (λ e. n (ap suc e))

item_new : (ths : List Thread) (y : Thread) → slice_get (ths ++ y ∷ []) (length ths) ≡ Some y
item_new [] y = refl
item_new (th ∷ ths) y = item_new ths y

-- a fact of each number, with one thread more
pub at_more : (P : ℕ → Option Thread → Type 0) (ths : List Thread) (y : Thread) → P (length ths) (Some y) → ((u : ℕ) → P u (slice_get ths u)) → (u : ℕ) → P u (slice_get (ths ++ y ∷ []) u)
at_more P ths y a b u =
    ⊎_elim
    (λ e. subst (λ v. P v (slice_get (ths ++ y ∷ []) v)) (sym e.1) (subst (P (length ths)) (sym (item_new ths y)) a))
    (λ e. subst (P u) (sym (item_last ths y u e.1)) (b u))
    (equal_or u (length ths))

pub has_new : (p : ℕ → Option Thread → Bool) (ths : List Thread) (q q' : List ℕ) (t : ℕ) (y : Thread) → t ≡ length ths → q' ≡ q ++ t ∷ [] → Has p ths q → Has p (ths ++ y ∷ []) q'
has_new p ths q q' t y l e k =
    subst (Has p (ths ++ y ∷ [])) (sym (e ∙ ap (λ n. q ++ n ∷ []) l))
    (at_more (λ u o. p u o ≡ true → is_in u (q ++ length ths ∷ []) ≡ true) ths y (λ i. in_last (length ths) q) (λ u i. in_more u (length ths) q (k u i)))

pub has_new_not : (p : ℕ → Option Thread → Bool) (ths : List Thread) (q : List ℕ) (y : Thread) → p (length ths) (Some y) ≡ false → Has p ths q → Has p (ths ++ y ∷ []) q
has_new_not p ths q y e k = at_more (λ u o. p u o ≡ true → is_in u q ≡ true) ths y (λ i. absurd (both_cannot e i)) k

-- ---- the tests
abbrev pub wanted_in : List Flying → ℕ → Option Thread → Bool
wanted_in fs t o = wanted t o fs

pub none_wants : (ths : List Thread) (fs : List Flying) → Listed ths fs [] → NobodyWants ths fs
none_wants ths fs h = has_none (wanted_in fs) ths h

-- ---- those who say that they are in a list
-- a flag, as a test of each number
abbrev at_any : (Option Thread → Bool) → ℕ → Option Thread → Bool
at_any flag t o = flag o

module _ (test flag : Option Thread → Bool) where
  -- another thread y stands at number t, and says that it is in the list only where the one before said so
  pub flagged_when : (ths : List Thread) (q : List ℕ) (t : ℕ) (th y : Thread) → slice_get ths t ≡ Some th → (test (Some y) ≡ true → flag (Some y) ≡ true) → (flag (Some y) ≡ true → flag (Some th) ≡ true) → Flagged test flag ths q → Flagged test flag (slice_set ths t y) q
  flagged_when ths q t th y h a b k = record {
    says = at_each (λ u o. test o ≡ true → flag o ≡ true) ths t th y h a (λ u n. k.says u);
    has = has_still (at_any flag) ths q t th y h b k.has;
  }

  -- the test isn't true of it
  pub flagged_not : (ths : List Thread) (q : List ℕ) (t : ℕ) (th y : Thread) → slice_get ths t ≡ Some th → test (Some y) ≡ false → flag (Some y) ≡ flag (Some th) → Flagged test flag ths q → Flagged test flag (slice_set ths t y) q
  flagged_not ths q t th y h a e k = flagged_when ths q t th y h (λ i. absurd (both_cannot a i)) (λ i. sym e ∙ i) k

  -- the test is true of it where it was
  pub flagged_same : (ths : List Thread) (q : List ℕ) (t : ℕ) (th y : Thread) → slice_get ths t ≡ Some th → test (Some y) ≡ test (Some th) → flag (Some y) ≡ flag (Some th) → Flagged test flag ths q → Flagged test flag (slice_set ths t y) q
  flagged_same ths q t th y h a e k = flagged_when ths q t th y h (λ i. e ∙ subst (λ o. flag o ≡ true) h (k.says t (ap test h ∙ (sym a ∙ i)))) (λ i. sym e ∙ i) k

  -- it says that it is in the list, and is
  flagged_in : (ths : List Thread) (q q' : List ℕ) (t : ℕ) (th y : Thread) → slice_get ths t ≡ Some th → flag (Some y) ≡ true → is_in t q' ≡ true → ((u : ℕ) → is_in u q ≡ true → is_in u q' ≡ true) → Flagged test flag ths q → Flagged test flag (slice_set ths t y) q'
  flagged_in ths q q' t th y h l i more k = record {
    says = at_each (λ u o. test o ≡ true → flag o ≡ true) ths t th y h (λ _. l) (λ u n. k.says u);
    has = at_each (λ u o. flag o ≡ true → is_in u q' ≡ true) ths t th y h (λ _. i) (λ u n j. more u (k.has u j));
  }

  -- it is pushed, and says so
  pub flagged_pushed : (ths : List Thread) (q q' : List ℕ) (t : ℕ) (th y : Thread) → slice_get ths t ≡ Some th → flag (Some y) ≡ true → q' ≡ q ++ t ∷ [] → Flagged test flag ths q → Flagged test flag (slice_set ths t y) q'
  flagged_pushed ths q q' t th y h l e k = subst (Flagged test flag (slice_set ths t y)) (sym e) (flagged_in ths q (q ++ t ∷ []) t th y h l (in_last t q) (in_more_of t q) k)

  -- it says that it is in the list, and was pushed where the one before didn't say so
  pub flagged_joined : (ths : List Thread) (q q' : List ℕ) (t : ℕ) (th y : Thread) (said : Bool) → slice_get ths t ≡ Some th → flag (Some th) ≡ said → flag (Some y) ≡ true → q' ≡ cond said q (q ++ t ∷ []) → Flagged test flag ths q → Flagged test flag (slice_set ths t y) q'
  flagged_joined ths q q' t th y true h s l e k = subst (Flagged test flag (slice_set ths t y)) (sym e) (flagged_in ths q q t th y h l (k.has t (ap flag h ∙ s)) (λ u i. i) k)
  flagged_joined ths q q' t th y false h s l e k = flagged_pushed ths q q' t th y h l e k

  -- the first leaves the list and says so, and the test isn't true of it
  pub flagged_taken : (ths : List Thread) (q : List ℕ) (t : ℕ) (th y : Thread) → slice_get ths t ≡ Some th → test (Some y) ≡ false → flag (Some y) ≡ false → Flagged test flag ths (t ∷ q) → Flagged test flag (slice_set ths t y) q
  flagged_taken ths q t th y h a l k = record {
    says = at_each (λ u o. test o ≡ true → flag o ≡ true) ths t th y h (λ i. absurd (both_cannot a i)) (λ u n. k.says u);
    has = has_taken (at_any flag) ths q t th y h l k.has;
  }

  -- the first goes to the end
  pub flagged_turned : (ths : List Thread) (q q' : List ℕ) (t : ℕ) → q' ≡ q ++ t ∷ [] → Flagged test flag ths (t ∷ q) → Flagged test flag ths q'
  flagged_turned ths q q' t e k = record { says = k.says; has = has_turned (at_any flag) ths q q' t e k.has }

  -- the first leaves the list, and nobody with its number says that it is there
  pub flagged_gone : (ths : List Thread) (q : List ℕ) (t : ℕ) → flag (slice_get ths t) ≡ false → Flagged test flag ths (t ∷ q) → Flagged test flag ths q
  flagged_gone ths q t h k = record { says = k.says; has = has_popped (at_any flag) ths q t h k.has }

  -- written twice
  pub flagged_twice : (ths : List Thread) (q : List ℕ) (t : ℕ) (y z : Thread) → Flagged test flag (slice_set ths t z) q → Flagged test flag (slice_set (slice_set ths t y) t z) q
  flagged_twice ths q t y z k = subst (λ l. Flagged test flag l q) (sym (set_twice ths t y z)) k

  -- one thread more
  pub flagged_new : (ths : List Thread) (q : List ℕ) (y : Thread) → test (Some y) ≡ false → flag (Some y) ≡ false → Flagged test flag ths q → Flagged test flag (ths ++ y ∷ []) q
  flagged_new ths q y a l k = record {
    says = at_more (λ u o. test o ≡ true → flag o ≡ true) ths y (λ i. absurd (both_cannot a i)) k.says;
    has = has_new_not (at_any flag) ths q y l k.has;
  }

  -- one thread more, which is pushed and says so
  pub flagged_more : (ths : List Thread) (q q' : List ℕ) (t : ℕ) (y : Thread) → t ≡ length ths → flag (Some y) ≡ true → q' ≡ q ++ t ∷ [] → Flagged test flag ths q → Flagged test flag (ths ++ y ∷ []) q'
  flagged_more ths q q' t y l f e k = record {
    says = at_more (λ u o. test o ≡ true → flag o ≡ true) ths y (λ _. f) k.says;
    has = has_new (at_any flag) ths q q' t y l e k.has;
  }

-- ---- those who may be stranded
pub not_waiting : (th : Thread) → th.blocked ≡ false → waits_open (Some th) ≡ false
not_waiting th e = ap (λ b. b && is_at_cell th.stack.control && is_interruptible (mask_of th)) e

abbrev pub strands : Thread → Bool
strands th = is_at_cell th.stack.control && is_interruptible (mask_of th)

-- ---- who waits, but for whether it is in the list
there_waits : (o : Option Thread) → waits_open o ≡ true → (th : Thread) × (o ≡ Some th) × (th.blocked ≡ true) × (is_at_cell th.stack.control ≡ true)
there_waits None h = absurd (cc h)
there_waits (Some th) h = (th, refl, first_of th.blocked (is_at_cell th.stack.control) (is_interruptible (mask_of th)) h, second_of th.blocked (is_at_cell th.stack.control) (is_interruptible (mask_of th)) h)
  where
    first_of : (a b d : Bool) → (a && b && d) ≡ true → a ≡ true
    first_of true b d h = refl
    first_of false b d h = absurd (cc h)

    second_of : (a b d : Bool) → (a && b && d) ≡ true → b ≡ true
    second_of true true d h = refl
    second_of true false d h = absurd (cc h)
    second_of false b d h = absurd (cc h)

pub who_waits : (ths : List Thread) (t : ℕ) → waits_open (slice_get ths t) ≡ true → (th : Thread) × (slice_get ths t ≡ Some th) × (th.blocked ≡ true) × (is_at_cell th.stack.control ≡ true)
who_waits ths t h = there_waits (slice_get ths t) h

-- the first of a list that waits is the one that is taken out
first_same : (u t : ℕ) (us q : List ℕ) → u ∷ us ≡ t ∷ q → u ≡ t
first_same u t us q e = cc e

pub front_waits : (ths : List Thread) (q q' : List ℕ) (t : ℕ) → (u : ℕ) × (us : List ℕ) × (q ≡ u ∷ us) × (waits_open (slice_get ths u) ≡ true) → q ≡ t ∷ q' → waits_open (slice_get ths t) ≡ true
front_waits ths q q' t f e = subst (λ v. waits_open (slice_get ths v) ≡ true) (first_same f.0 t f.1 q' (sym f.2 ∙ e)) f.3

pub rest_of : (q q' ts : List ℕ) (t : ℕ) → q ≡ t ∷ ts → q' ≡ drop 1 q → q ≡ t ∷ q'
rest_of q q' ts t e k = e ∙ ap (λ x. t ∷ x) (sym (k ∙ ap (drop 1) e))

pub at_cell_throws_not : (x : Control) → is_at_cell x ≡ true → IsThrow x → ⊥
at_cell_throws_not (c.Throw e) h i = cc h
at_cell_throws_not (c.Doing j vs) h i = i
at_cell_throws_not (c.Ret v) h i = i
at_cell_throws_not (c.Op q) h i = i

pub waits_alike : (ths ths' : List Thread) (t : ℕ) → unlisted ths ≡ unlisted ths' → waits_open (slice_get ths t) ≡ true → waits_open (slice_get ths' t) ≡ true
waits_alike ths ths' t e h =
    let w = who_waits ths t h in
    let a = thread_alike ths ths' t w.0 e w.1 in
    ap waits_open a.1 ∙ (ap (λ (th : Thread). waits_open (Some th)) a.2 ∙ (sym (ap waits_open w.1) ∙ h))

-- ---- the flight
pub to_other : (u : ℕ) (f : Flying) (fs : List Flying) → u ≢ f.target → flying_to u (fs ++ f ∷ []) ≡ flying_to u fs
to_other u f [] n = ⊎_elim (λ e. absurd (n (sym e.1))) (λ e. cond_false (f.target == u) (f ∷ []) [] e.0) (equal_or f.target u)
to_other u f (g ∷ gs) n = ap (λ x. cond (g.target == u) (g ∷ x) x) (to_other u f gs n)

pub thrown_wants : (ths : List Thread) (fs : List Flying) (f : Flying) (u : ℕ) → u ≢ f.target → wants u ths (fs ++ f ∷ []) ≡ wants u ths fs
thrown_wants ths fs f u n = by (slice_get ths u)
  where
    by : (o : Option Thread) → wanted u o (fs ++ f ∷ []) ≡ wanted u o fs
    by None = refl
    by (Some th) = ap (λ x. cond th.finished false (cond (has_own th) true (cond (is_receptive th) (is_some (first_thrown x)) false))) (to_other u f fs n)

hit_less : (t u : ℕ) (fs : List Flying) → is_hit u (withdrawn t fs) ≡ true → is_hit u fs ≡ true
hit_less t u [] h = h
hit_less t u (f ∷ fs) h =
    ⊎_elim
    (λ e. ap (λ x. is_some (first_thrown x)) (cond_true (f.target == u) (f ∷ flying_to u fs) (flying_to u fs) e.0))
    (λ e. ap (λ x. is_some (first_thrown x)) (cond_false (f.target == u) (f ∷ flying_to u fs) (flying_to u fs) e.0)
    ∙ hit_less t u fs (cond_cases (λ x. is_hit u x ≡ true → is_hit u (withdrawn t fs) ≡ true) (f.thrower == t) (withdrawn t fs) (f ∷ withdrawn t fs) (λ k. λ j. j)
    (λ k. λ j. sym (ap (λ x. is_some (first_thrown x)) (cond_false (f.target == u) (f ∷ flying_to u (withdrawn t fs)) (flying_to u (withdrawn t fs)) e.0)) ∙ j) h))
    (equal_or f.target u)

less_wanted : (a b d e : Bool) → (d ≡ true → e ≡ true) → (f : Bool) → cond f false (cond a true (cond b d false)) ≡ true → cond f false (cond a true (cond b e false)) ≡ true
less_wanted a b d e h true k = k
less_wanted true b d e h false k = k
less_wanted false true d e h false k = h k
less_wanted false false d e h false k = k

pub withdrawn_wants : (ths : List Thread) (fs : List Flying) (t u : ℕ) → wants u ths (withdrawn t fs) ≡ true → wants u ths fs ≡ true
withdrawn_wants ths fs t u h = by (slice_get ths u) h
  where
    by : (o : Option Thread) → wanted u o (withdrawn t fs) ≡ true → wanted u o fs ≡ true
    by None k = k
    by (Some th) k = less_wanted (has_own th) (is_receptive th) (is_hit u (withdrawn t fs)) (is_hit u fs) (hit_less t u fs) th.finished k

pub listed_thrown : (ths : List Thread) (fs fs' : List Flying) (work work' : List ℕ) (f : Flying) → fs' ≡ fs ++ f ∷ [] → work' ≡ work ++ f.target ∷ [] → Listed ths fs work → Listed ths fs' work'
listed_thrown ths fs fs' work work' f e k h =
    subst (λ x. Listed ths x work') (sym e) (subst (λ y. Listed ths (fs ++ f ∷ []) y) (sym k) (λ u i. ⊎_elim
    (λ j. subst (λ v. is_in v (work ++ f.target ∷ []) ≡ true) (sym j.1) (in_last f.target work))
    (λ j. in_more u f.target work (h u (sym (thrown_wants ths fs f u j.1) ∙ i)))
    (equal_or u f.target)))

pub listed_withdrawn : (ths : List Thread) (fs fs' : List Flying) (work : List ℕ) (t : ℕ) → fs' ≡ withdrawn t fs → Listed ths fs work → Listed ths fs' work
listed_withdrawn ths fs fs' work t e h = subst (λ x. Listed ths x work) (sym e) (λ u k. h u (withdrawn_wants ths fs t u k))

pub listed_delivered : (ths : List Thread) (fs fs' : List Flying) (work : List ℕ) (o : Option (ℕ × Exn)) → fs' ≡ after_delivery o fs → Listed ths fs work → Listed ths fs' work
listed_delivered ths fs fs' work None e h = subst (λ x. Listed ths x work) (sym e) h
listed_delivered ths fs fs' work (Some w) e h = listed_withdrawn ths fs fs' work w.0 e h
