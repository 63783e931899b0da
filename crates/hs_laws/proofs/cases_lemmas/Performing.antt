-- An operation is performed exactly by its cases.
use Rattle.std.proofs.Common.{◌≡◌, ◌≢◌, ℕ, zero, suc, ◌<◌, ◌==◌, ℤ, pos, negsuc, true, false, List, [], ◌∷◌, Option, Some, None, slice_get, refl, sym, ap, ◌∙◌, subst, arith, ne_eqb}
use Rattle.std.proofs.lemmas.Bool.{cond-true, cond-false}
use Rattle.hs_base.specs.declared.mask.Mask.{Mask}
use Rattle.hs_base.specs.declared.exn.Exn.{Exn}
use Rattle.rules_expansion.specs.declared.primitive.Primitive.{Primitive}
use Rattle.rules_expansion.specs.declared.primitive.Primitive.TheVariants.{PutStr, PutStrLn, HPutStrLn, NewMVar, NewEmptyMVar, TakeMVar, PutMVar, ReadMVar, TryTakeMVar, TryPutMVar, MyThreadId, GetMaskingState, ClockMicros, ThreadDelay, ThrowTo, NewTimeout, Acquired, Release}
use Rattle.rules_meaning.specs.Values.{V, UnitValue, Int, Truth, Text, Nothing, Just, Cell, Exception, Restore, Inst}
use Rattle.rules_meaning.specs.Values as v
use Rattle.rules_waiting.specs.Waiting.{Throwing, Sleeping}
use Rattle.hs_rules.specs.Terms.{Operation, Calls, Forks, ForksUnmask, Throw}
use Rattle.hs_rules.specs.State.{Thread, State, resume, answer, block}
use Rattle.hs_rules.specs.Primitives.{on_none, on_one, on_two, as_text, as_number, as_cell, as_thread, as_exn, as_instance, moves_in, goes_in, take, read, put, try_take, try_put, throw_at, due_in, delay, operated}
use Rattle.hs_laws.specs.cases.Cases.{putter, taker, read_there, Performs, prints, prints_a_line, tells_a_line, makes_a_full_cell, makes_an_empty_cell, take_waits, takes_and_empties, takes_and_serves, read_waits, reads, put_waits, puts_and_fills, puts_and_serves, try_take_finds_nothing, try_takes_and_empties, try_takes_and_serves, try_put_finds_a_value, try_puts_and_fills, try_puts_and_serves, names_itself, names_its_masking, reads_the_clock, sleeps, sleep_of_nothing, sleep_of_less, throws_at_itself, throws_at_finished, throw_waits, makes_a_timeout, acquires, releases, forks, forks_unmasked}
use Rattle.hs_laws.proofs.cases_lemmas.Options.{landed, tested}

-- ---- a case is performed

same_number : (n k : ℕ) → n ≡ k → n == k ≡ true
same_number n k e = grind arith

itself : (t : ℕ) (e : Exn) (s : State) (o : Option Thread) (th : Thread) → o ≡ Some th → throw_at t t e o s ≡ Some (resume t (Throw e) s)
itself t e s o th h = ap (λ p. throw_at t t e p s) h ∙ cond-true (t == t) _ _ (same_number t t refl)

at_finished : (t u : ℕ) (e : Exn) (s : State) (o : Option Thread) (th : Thread) → u ≢ t → o ≡ Some th → th.finished ≡ true → throw_at t u e o s ≡ Some (answer t UnitValue s)
at_finished t u e s o th n h f = ap (λ p. throw_at t u e p s) h ∙ (cond-false (u == t) _ _ (ne_eqb u t n) ∙ cond-true th.finished _ _ f)

waits : (t u : ℕ) (e : Exn) (s : State) (o : Option Thread) (th : Thread) → u ≢ t → o ≡ Some th → th.finished ≡ false → throw_at t u e o s ≡ Some (block t (Throwing u e) s)
waits t u e s o th n h f = ap (λ p. throw_at t u e p s) h ∙ (cond-false (u == t) _ _ (ne_eqb u t n) ∙ cond-false th.finished _ _ f)

slept : (t n : ℕ) (s : State) → 0 < n → delay t (pos n) s ≡ Some (block t (Sleeping (due_in n s)) s)
slept t n s h = cond-false (n == 0) _ _ (grind arith)

pub performed_is : {t : ℕ} {m : Mask} {p : Operation} {s u : State} → Performs t m p s u → operated t m p s ≡ Some u
performed_is {t} (take_waits {c} {s = r} e) = ap (λ o. take t c o r) e
performed_is {t} (takes_and_empties {c} {a} {s = r} e w) = ap (λ o. take t c o r) e ∙ ap (λ o. Some (moves_in c o (answer t a r))) w
performed_is {t} (takes_and_serves {c} {a} {s = r} e w) = ap (λ o. take t c o r) e ∙ ap (λ o. Some (moves_in c o (answer t a r))) w
performed_is {t} (read_waits {c} {s = r} e) = ap (λ o. read t c o r) e
performed_is {t} (reads {c} {s = r} e) = ap (λ o. read t c o r) e
performed_is {t} (put_waits {c} {a} {s = r} e) = ap (λ o. put t c a o r) e
performed_is {t} (puts_and_fills {c} {a} {s = r} e w) = ap (λ o. put t c a o r) e ∙ ap (λ o. Some (goes_in c a o (read_there c a (answer t UnitValue r)))) w
performed_is {t} (puts_and_serves {c} {a} {s = r} e w) = ap (λ o. put t c a o r) e ∙ ap (λ o. Some (goes_in c a o (read_there c a (answer t UnitValue r)))) w
performed_is {t} (try_take_finds_nothing {c} {s = r} e) = ap (λ o. try_take t c o r) e
performed_is {t} (try_takes_and_empties {c} {a} {s = r} e w) = ap (λ o. try_take t c o r) e ∙ ap (λ o. Some (moves_in c o (answer t (Just a) r))) w
performed_is {t} (try_takes_and_serves {c} {a} {s = r} e w) = ap (λ o. try_take t c o r) e ∙ ap (λ o. Some (moves_in c o (answer t (Just a) r))) w
performed_is {t} (try_put_finds_a_value {c} {a} {s = r} e) = ap (λ o. try_put t c a o r) e
performed_is {t} (try_puts_and_fills {c} {a} {s = r} e w) = ap (λ o. try_put t c a o r) e ∙ ap (λ o. Some (goes_in c a o (read_there c a (answer t (Truth true) r)))) w
performed_is {t} (try_puts_and_serves {c} {a} {s = r} e w) = ap (λ o. try_put t c a o r) e ∙ ap (λ o. Some (goes_in c a o (read_there c a (answer t (Truth true) r)))) w
performed_is {t} (sleeps {n} {s = r} h) = slept t n r h
performed_is {t} (throws_at_itself {th} {e} {s = r} h) = itself t e r (slice_get r.threads t) th h
performed_is {t} (throws_at_finished {u = w} {th} {e} {s = r} n h f) = at_finished t w e r (slice_get r.threads w) th n h f
performed_is {t} (throw_waits {u = w} {th} {e} {s = r} n h f) = waits t w e r (slice_get r.threads w) th n h f
performed_is _ = refl

-- ---- the values of a primitive

none_is : (P : List V → Type 0) (o : Option State) (u : State) → (o ≡ Some u → P []) → (vs : List V) → on_none vs o ≡ Some u → P vs
none_is P o u f [] h = f h
none_is P o u f (a ∷ vs) h = absurd (cc h)

one_is : (P : List V → Type 0) (k : V → Option State) (u : State) → ((a : V) → k a ≡ Some u → P (a ∷ [])) → (vs : List V) → on_one vs k ≡ Some u → P vs
one_is P k u f [] h = absurd (cc h)
one_is P k u f (a ∷ []) h = f a h
one_is P k u f (a ∷ b ∷ vs) h = absurd (cc h)

two_is : (P : List V → Type 0) (k : V → V → Option State) (u : State) → ((a b : V) → k a b ≡ Some u → P (a ∷ b ∷ [])) → (vs : List V) → on_two vs k ≡ Some u → P vs
two_is P k u f [] h = absurd (cc h)
two_is P k u f (a ∷ vs) h = one_is (λ ws. P (a ∷ ws)) (k a) u (f a) vs h

text_is : (P : V → Type 0) (k : List ℕ → Option State) (u : State) → ((x : List ℕ) → k x ≡ Some u → P (Text x)) → (a : V) → as_text a k ≡ Some u → P a
text_is P k u f (Text x) h = f x h
text_is P k u f _ h = absurd (cc h)

number_is : (P : V → Type 0) (k : ℤ → Option State) (u : State) → ((n : ℤ) → k n ≡ Some u → P (Int n)) → (a : V) → as_number a k ≡ Some u → P a
number_is P k u f (Int n) h = f n h
number_is P k u f _ h = absurd (cc h)

cell_is : (P : V → Type 0) (k : ℕ → Option State) (u : State) → ((c : ℕ) → k c ≡ Some u → P (Cell c)) → (a : V) → as_cell a k ≡ Some u → P a
cell_is P k u f (Cell c) h = f c h
cell_is P k u f _ h = absurd (cc h)

thread_is : (P : V → Type 0) (k : ℕ → Option State) (u : State) → ((t : ℕ) → k t ≡ Some u → P (v.Thread t)) → (a : V) → as_thread a k ≡ Some u → P a
thread_is P k u f (v.Thread t) h = f t h
thread_is P k u f _ h = absurd (cc h)

exn_is : (P : V → Type 0) (k : Exn → Option State) (u : State) → ((e : Exn) → k e ≡ Some u → P (Exception e)) → (a : V) → as_exn a k ≡ Some u → P a
exn_is P k u f (Exception e) h = f e h
exn_is P k u f _ h = absurd (cc h)

instance_is : (P : V → Type 0) (k : ℕ → Option State) (u : State) → ((i : ℕ) → k i ≡ Some u → P (Inst i)) → (a : V) → as_instance a k ≡ Some u → P a
instance_is P k u f (Inst i) h = f i h
instance_is P k u f _ h = absurd (cc h)

-- ---- what is performed has a case

module _ (t : ℕ) (m : Mask) (s u : State) where
  abbrev Called : Primitive → List V → Type 0
  Called p vs = Performs t m (Calls p vs) s u

  -- it was this case
  is : {p : Operation} {r : State} → Performs t m p s r → Some r ≡ Some u → Performs t m p s u
  is {p} {r} c h = landed (Performs t m p s) r u h c

  is_take : (c : ℕ) (o : Option (Option V)) → slice_get s.cells c ≡ o → take t c o s ≡ Some u → Called TakeMVar (Cell c ∷ [])
  is_take c None e h = absurd (cc h)
  is_take c (Some None) e h = is (take_waits e) h
  is_take c (Some (Some a)) e h = by (putter c (answer t a s)) refl h
    where
      by : (o : Option (ℕ × V)) → putter c (answer t a s) ≡ o → Some (moves_in c o (answer t a s)) ≡ Some u → Called TakeMVar (Cell c ∷ [])
      by None w g = is (takes_and_empties e w) g
      by (Some b) w g = is (takes_and_serves e w) g

  is_read : (c : ℕ) (o : Option (Option V)) → slice_get s.cells c ≡ o → read t c o s ≡ Some u → Called ReadMVar (Cell c ∷ [])
  is_read c None e h = absurd (cc h)
  is_read c (Some None) e h = is (read_waits e) h
  is_read c (Some (Some a)) e h = is (reads e) h

  is_put : (c : ℕ) (a : V) (o : Option (Option V)) → slice_get s.cells c ≡ o → put t c a o s ≡ Some u → Called PutMVar (Cell c ∷ a ∷ [])
  is_put c a None e h = absurd (cc h)
  is_put c a (Some (Some b)) e h = is (put_waits e) h
  is_put c a (Some None) e h = by (taker c (read_there c a (answer t UnitValue s))) refl h
    where
      by : (o : Option ℕ) → taker c (read_there c a (answer t UnitValue s)) ≡ o → Some (goes_in c a o (read_there c a (answer t UnitValue s))) ≡ Some u → Called PutMVar (Cell c ∷ a ∷ [])
      by None w g = is (puts_and_fills e w) g
      by (Some b) w g = is (puts_and_serves e w) g

  is_try_take : (c : ℕ) (o : Option (Option V)) → slice_get s.cells c ≡ o → try_take t c o s ≡ Some u → Called TryTakeMVar (Cell c ∷ [])
  is_try_take c None e h = absurd (cc h)
  is_try_take c (Some None) e h = is (try_take_finds_nothing e) h
  is_try_take c (Some (Some a)) e h = by (putter c (answer t (Just a) s)) refl h
    where
      by : (o : Option (ℕ × V)) → putter c (answer t (Just a) s) ≡ o → Some (moves_in c o (answer t (Just a) s)) ≡ Some u → Called TryTakeMVar (Cell c ∷ [])
      by None w g = is (try_takes_and_empties e w) g
      by (Some b) w g = is (try_takes_and_serves e w) g

  is_try_put : (c : ℕ) (a : V) (o : Option (Option V)) → slice_get s.cells c ≡ o → try_put t c a o s ≡ Some u → Called TryPutMVar (Cell c ∷ a ∷ [])
  is_try_put c a None e h = absurd (cc h)
  is_try_put c a (Some (Some b)) e h = is (try_put_finds_a_value e) h
  is_try_put c a (Some None) e h = by (taker c (read_there c a (answer t (Truth true) s))) refl h
    where
      by : (o : Option ℕ) → taker c (read_there c a (answer t (Truth true) s)) ≡ o → Some (goes_in c a o (read_there c a (answer t (Truth true) s))) ≡ Some u → Called TryPutMVar (Cell c ∷ a ∷ [])
      by None w g = is (try_puts_and_fills e w) g
      by (Some b) w g = is (try_puts_and_serves e w) g

  is_delay : (n : ℤ) → delay t n s ≡ Some u → Called ThreadDelay (Int n ∷ [])
  is_delay (pos zero) h = is sleep_of_nothing h
  is_delay (pos (suc n)) h = is (sleeps (omega arith)) (sym (slept t (suc n) s (omega arith)) ∙ h)
  is_delay (negsuc n) h = is sleep_of_less h

  number_same : (w : ℕ) → w == t ≡ true → w ≡ t
  number_same w e = grind arith

  number_other : (w : ℕ) → w == t ≡ false → w ≢ t
  number_other w e q = grind arith

  is_throw_to : (w : ℕ) (e : Exn) (o : Option Thread) → slice_get s.threads w ≡ o → throw_at t w e o s ≡ Some u → Called ThrowTo (v.Thread w ∷ Exception e ∷ [])
  is_throw_to w e None q h = absurd (cc h)
  is_throw_to w e (Some th) q h =
      tested (Called ThrowTo (v.Thread w ∷ Exception e ∷ [])) (w == t) _ _ u
      (λ i g. subst (λ n. Called ThrowTo (v.Thread n ∷ Exception e ∷ [])) (sym (number_same w i)) (is (throws_at_itself (ap (slice_get s.threads) (sym (number_same w i)) ∙ q)) g))
      (λ n. tested (Called ThrowTo (v.Thread w ∷ Exception e ∷ [])) th.finished _ _ u
      (λ f g. is (throws_at_finished (number_other w n) q f) g)
      (λ f g. is (throw_waits (number_other w n) q f) g))
      h

  is_call : (p : Primitive) (vs : List V) → operated t m (Calls p vs) s ≡ Some u → Called p vs
  is_call PutStr vs h = one_is (Called PutStr) _ u (λ a. text_is (λ b. Called PutStr (b ∷ [])) _ u (λ x g. is prints g) a) vs h
  is_call PutStrLn vs h = one_is (Called PutStrLn) _ u (λ a. text_is (λ b. Called PutStrLn (b ∷ [])) _ u (λ x g. is prints_a_line g) a) vs h
  is_call HPutStrLn vs h = one_is (Called HPutStrLn) _ u (λ a. text_is (λ b. Called HPutStrLn (b ∷ [])) _ u (λ x g. is tells_a_line g) a) vs h
  is_call NewMVar vs h = one_is (Called NewMVar) _ u (λ a g. is makes_a_full_cell g) vs h
  is_call NewEmptyMVar vs h = none_is (Called NewEmptyMVar) _ u (λ g. is makes_an_empty_cell g) vs h
  is_call TakeMVar vs h = one_is (Called TakeMVar) _ u (λ a. cell_is (λ b. Called TakeMVar (b ∷ [])) _ u (λ c. is_take c (slice_get s.cells c) refl) a) vs h
  is_call PutMVar vs h = two_is (Called PutMVar) _ u (λ a b. cell_is (λ w. Called PutMVar (w ∷ b ∷ [])) _ u (λ c. is_put c b (slice_get s.cells c) refl) a) vs h
  is_call ReadMVar vs h = one_is (Called ReadMVar) _ u (λ a. cell_is (λ b. Called ReadMVar (b ∷ [])) _ u (λ c. is_read c (slice_get s.cells c) refl) a) vs h
  is_call TryTakeMVar vs h = one_is (Called TryTakeMVar) _ u (λ a. cell_is (λ b. Called TryTakeMVar (b ∷ [])) _ u (λ c. is_try_take c (slice_get s.cells c) refl) a) vs h
  is_call TryPutMVar vs h = two_is (Called TryPutMVar) _ u (λ a b. cell_is (λ w. Called TryPutMVar (w ∷ b ∷ [])) _ u (λ c. is_try_put c b (slice_get s.cells c) refl) a) vs h
  is_call MyThreadId vs h = none_is (Called MyThreadId) _ u (λ g. is names_itself g) vs h
  is_call GetMaskingState vs h = none_is (Called GetMaskingState) _ u (λ g. is names_its_masking g) vs h
  is_call ClockMicros vs h = none_is (Called ClockMicros) _ u (λ g. is reads_the_clock g) vs h
  is_call ThreadDelay vs h = one_is (Called ThreadDelay) _ u (λ a. number_is (λ b. Called ThreadDelay (b ∷ [])) _ u is_delay a) vs h
  is_call ThrowTo vs h =
      two_is (Called ThrowTo) _ u
      (λ a b. thread_is (λ w. Called ThrowTo (w ∷ b ∷ [])) _ u (λ w. exn_is (λ x. Called ThrowTo (v.Thread w ∷ x ∷ [])) _ u (λ e. is_throw_to w e (slice_get s.threads w) refl) b) a)
      vs h
  is_call NewTimeout vs h = none_is (Called NewTimeout) _ u (λ g. is makes_a_timeout g) vs h
  is_call Acquired vs h = none_is (Called Acquired) _ u (λ g. is acquires g) vs h
  is_call Release vs h = one_is (Called Release) _ u (λ a. instance_is (λ b. Called Release (b ∷ [])) _ u (λ i g. is releases g) a) vs h

pub case_of : (t : ℕ) (m : Mask) (p : Operation) (s u : State) → operated t m p s ≡ Some u → Performs t m p s u
case_of t m (Calls p vs) s u h = is_call t m s u p vs h
case_of t m (Forks a env) s u h = is t m s u forks h
case_of t m (ForksUnmask r a env) s u h = is t m s u forks_unmasked h
