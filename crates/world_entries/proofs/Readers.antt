-- Who stands in a line: readers, and who is left when they leave.
use Rattle.std.proofs.Common.{◌≡◌, ◌≢◌, ℕ, ◌==◌, Bool, true, false, cond, List, [], ◌∷◌, Option, Some, None, refl, sym, ap, ◌∙◌, subst, ⊎_elim}
use Rattle.rules_waiting.specs.OneCell.{Place, leaves_line, stands_in, put_of, takes_it, reads_it, first_put, first_take, readers, leave_line}
use Rattle.hs_laws.proofs.Lists.{cond_cases, cond_true, cond_false, equal_or, Ones, ones_changed}

module _ {A : Type 0} where
  -- the first of a line stands in it, and who stands behind it does too
  stands_first : (p : Place A) (ps : List (Place A)) → stands_in p.thread (p ∷ ps) ≡ true
  stands_first p ps = ⊎_elim (λ q. cond_true (p.thread == p.thread) true (stands_in p.thread ps) q.0) (λ q. absurd (q.1 refl)) (equal_or p.thread p.thread)

  stands_behind : (t : ℕ) (p : Place A) (ps : List (Place A)) → stands_in t ps ≡ true → stands_in t (p ∷ ps) ≡ true
  stands_behind t p ps h = cond_cases (λ b. b ≡ true) (p.thread == t) true (stands_in t ps) (λ q. refl) (λ q. h)

  -- who reads stands in the line
  pub readers_stand : (ps : List (Place A)) → Ones (λ u. stands_in u ps ≡ true) (readers ps)
  readers_stand [] = tt
  readers_stand (p ∷ ps) =
      let rest : Ones (λ u. stands_in u (p ∷ ps) ≡ true) (readers ps) = ones_changed (λ u. stands_in u ps ≡ true) (λ u. stands_in u (p ∷ ps) ≡ true) (readers ps) (λ u h. stands_behind u p ps h) (readers_stand ps) in
      cond_cases (Ones (λ u. stands_in u (p ∷ ps) ≡ true)) (reads_it p.want) (p.thread ∷ readers ps) (readers ps) (λ q. (stands_first p ps, rest)) (λ q. rest)

  pub first_reader_stands : (t : ℕ) (ts : List ℕ) (ps : List (Place A)) → readers ps ≡ t ∷ ts → stands_in t ps ≡ true
  first_reader_stands t ts ps e = (subst (Ones (λ u. stands_in u ps ≡ true)) e (readers_stand ps)).0

  -- who stands in no place is none of the readers
  pub readers_apart : (t : ℕ) (ps : List (Place A)) → stands_in t ps ≡ false → Ones (λ u. u ≢ t) (readers ps)
  readers_apart t ps h =
      ones_changed (λ u. stands_in u ps ≡ true) (λ u. u ≢ t) (readers ps)
      (λ u k e. let z : true ≡ false = sym k ∙ (ap (λ w. stands_in w ps) e ∙ h) in absurd (cc z))
      (readers_stand ps)

  -- ---- when others leave

  pub gone_stands : (t : ℕ) (ps : List (Place A)) → stands_in t (leaves_line t ps) ≡ false
  gone_stands t [] = refl
  gone_stands t (p ∷ ps) =
      ⊎_elim
      (λ q. ap (stands_in t) (cond_true (p.thread == t) (leaves_line t ps) (p ∷ leaves_line t ps) q.0) ∙ gone_stands t ps)
      (λ q. ap (stands_in t) (cond_false (p.thread == t) (leaves_line t ps) (p ∷ leaves_line t ps) q.0) ∙ (cond_false (p.thread == t) true (stands_in t (leaves_line t ps)) q.0 ∙ gone_stands t ps))
      (equal_or p.thread t)

  stood : (u t : ℕ) (p : Place A) (ps : List (Place A)) → (stands_in u (leaves_line t ps) ≡ true → stands_in u ps ≡ true) → (b : Bool) → stands_in u (cond b (leaves_line t ps) (p ∷ leaves_line t ps)) ≡ true → stands_in u (p ∷ ps) ≡ true
  stood u t p ps f true h = stands_behind u p ps (f h)
  stood u t p ps f false h =
      ⊎_elim
      (λ q. cond_true (p.thread == u) true (stands_in u ps) q.0)
      (λ q. stands_behind u p ps (f (sym (cond_false (p.thread == u) true (stands_in u (leaves_line t ps)) q.0) ∙ h)))
      (equal_or p.thread u)

  -- who stands in what is left of a line stood in it
  pub stood_before : (u t : ℕ) (ps : List (Place A)) → stands_in u (leaves_line t ps) ≡ true → stands_in u ps ≡ true
  stood_before u t [] h = h
  stood_before u t (p ∷ ps) h = stood u t p ps (stood_before u t ps) (p.thread == t) h

  pub stood_before_all : (u : ℕ) (ts : List ℕ) (ps : List (Place A)) → stands_in u (leave_line ts ps) ≡ true → stands_in u ps ≡ true
  stood_before_all u [] ps h = h
  stood_before_all u (t ∷ ts) ps h = stood_before u t ps (stood_before_all u ts (leaves_line t ps) h)

  -- and is none of those who left
  pub left_apart : (u : ℕ) (ts : List ℕ) (ps : List (Place A)) → stands_in u (leave_line ts ps) ≡ true → Ones (λ t. t ≢ u) ts
  left_apart u [] ps h = tt
  left_apart u (t ∷ ts) ps h = (
    (λ e. let z : true ≡ false = sym (stood_before_all u ts (leaves_line t ps) h) ∙ subst (λ w. stands_in w (leaves_line t ps) ≡ false) e (gone_stands t ps) in absurd (cc z)),
    left_apart u ts (leaves_line t ps) h,
  )

  -- ---- whom a cell serves stands in its line

  -- the first of a line that waits to put, by what its first place wants to put
  abbrev or_put : ℕ → Option (ℕ × A) → Option A → Option (ℕ × A)
  or_put t o None = o
  or_put t o (Some v) = Some (t, v)

  put_of_first : (t : ℕ) (o : Option (ℕ × A)) (q : Option A) → elim q [ None ↦ o | Some v ↦ Some (t, v) ] ≡ or_put t o q
  put_of_first t o None = refl
  put_of_first t o (Some v) = refl

  or_put_stands : (p : Place A) (ps : List (Place A)) (u : ℕ) (x : A) → (first_put ps ≡ Some (u, x) → stands_in u ps ≡ true) → (q : Option A) → or_put p.thread (first_put ps) q ≡ Some (u, x) → stands_in u (p ∷ ps) ≡ true
  or_put_stands p ps u x f None e = stands_behind u p ps (f e)
  or_put_stands p ps u x f (Some v) e = let pair : (p.thread, v) ≡ (u, x) = cc e in let same : p.thread ≡ u = ap (λ (z : ℕ × A). z.0) pair in subst (λ w. stands_in w (p ∷ ps) ≡ true) same (stands_first p ps)

  pub putter_stands : (u : ℕ) (x : A) (ps : List (Place A)) → first_put ps ≡ Some (u, x) → stands_in u ps ≡ true
  putter_stands u x [] e = absurd (cc e)
  putter_stands u x (p ∷ ps) e = or_put_stands p ps u x (putter_stands u x ps) (put_of p.want) (sym (put_of_first p.thread (first_put ps) (put_of p.want)) ∙ e)

  or_take_stands : (p : Place A) (ps : List (Place A)) (u : ℕ) → (first_take ps ≡ Some u → stands_in u ps ≡ true) → (b : Bool) → cond b (Some p.thread) (first_take ps) ≡ Some u → stands_in u (p ∷ ps) ≡ true
  or_take_stands p ps u f false e = stands_behind u p ps (f e)
  or_take_stands p ps u f true e = let same : p.thread ≡ u = cc e in subst (λ w. stands_in w (p ∷ ps) ≡ true) same (stands_first p ps)

  pub taker_stands : (u : ℕ) (ps : List (Place A)) → first_take ps ≡ Some u → stands_in u ps ≡ true
  taker_stands u [] e = absurd (cc e)
  taker_stands u (p ∷ ps) e = or_take_stands p ps u (taker_stands u ps) (takes_it p.want) e
