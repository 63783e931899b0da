-- Whoever sleeps may wake without time, and with it after at most one Tick.
use Rattle.std.proofs.Common.{◌≡◌, ◌⊎◌, ℕ, nat_le, Bool, true, false, cond, List, Option, Some, None, refl, sym, ap, ◌∙◌, subst, inl, inr, slice_get}
use Rattle.std.proofs.lemmas.Option.{same_Some}
use Rattle.plain_laws.proofs.Numbers.{le_back, le_itself}
use Rattle.hs_rules.specs.declared.entry.Entry.{Entry}
use Rattle.hs_rules.specs.declared.entry.Entry.TheVariants as entry
use Rattle.hs_rules.specs.Endings.{IsTick}
use Rattle.rules_code.specs.CodeTrees.{SlottedFunction}
use Rattle.rules_waiting.specs.Waiting.{Sleeper}
use Rattle.exn_flight.specs.Asleep.{due_of}
use Rattle.hs_laws.proofs.Lists.{cond_true}
use Rattle.slot_states.specs.SlotStates.{SlotThread, SlotState, wakes, ticks}
use Rattle.slot_states.specs.entering.Entering.{woken, entered, next}
use Rattle.slot_states.proofs.entering_lemmas.Passing.{passed, thread_there, thread_leaves}
use Rattle.search_laws.specs.time.WithoutTime.{untimed, ReadsClock, ticked_to, due_first}
use Rattle.search_laws.proofs.time_lemmas.Sleepers.{now_due, due_still, leave_alike}
use Rattle.search_laws.proofs.time_lemmas.Untimed.{alike_there, Alikes}
use Rattle.search_laws.proofs.time_lemmas.Entering.{next_alike}

-- who wakes sleeps, until a time that has come
woken_by : (t : ℕ) (o : Option ℕ) (x y : SlotState) → woken t o x ≡ Some y → (due : ℕ) × (o ≡ Some due) × (nat_le due x.clock ≡ true) × (wakes t x ≡ y)
woken_by t None x y h = absurd (cc h)
woken_by t (Some due) x y h = let p = passed (nat_le due x.clock) (Some (wakes t x)) y h in (due, refl, p.0, same_Some (wakes t x) y p.1)

-- who sleeps without time sleeps
sleeps_too : (o : Option ℕ) (due : ℕ) → now_due o ≡ Some due → (d : ℕ) × (o ≡ Some d)
sleeps_too None due h = absurd (cc h)
sleeps_too (Some d) due h = (d, refl)

wakes_alike : (t : ℕ) (x : SlotState) → untimed (wakes t (untimed x)) ≡ untimed (wakes t x)
wakes_alike t x = ap (λ (ss : List Sleeper). record (wakes t x) { sleepers = ss; clock = 0 }) (leave_alike t x.sleepers)

module _ (funs : List SlottedFunction) where
  wake_is : (t due : ℕ) (x : SlotState) (main : SlotThread) → slice_get x.threads 0 ≡ Some main → main.finished ≡ false → due_of t x.sleepers ≡ Some due → nat_le due x.clock ≡ true → next funs x (entry.Wake t) ≡ Some (wakes t x)
  wake_is t due x main is f d come =
      thread_leaves (slice_get x.threads 0) (λ th. entered funs x (entry.Wake t)) main (Some (wakes t x)) is f
      (ap (λ o. woken t o x) d ∙ cond_true (nat_le due x.clock) (Some (wakes t x)) None come)

  tick_is : (now : ℕ) (x : SlotState) (main : SlotThread) → slice_get x.threads 0 ≡ Some main → main.finished ≡ false → nat_le x.clock now ≡ true → next funs x (entry.Tick now) ≡ Some (ticks now x)
  tick_is now x main is f d =
      thread_leaves (slice_get x.threads 0) (λ th. entered funs x (entry.Tick now)) main (Some (ticks now x)) is f
      (cond_true (nat_le x.clock now) (Some (ticks now x)) None d)

  -- ---- Wake, forth and back
  wake_forth : (t : ℕ) (x y : SlotState) → next funs x (entry.Wake t) ≡ Some y → (z : SlotState) × (next funs (untimed x) (entry.Wake t) ≡ Some z) × (untimed z ≡ untimed y)
  wake_forth t x y h =
      let g = thread_there (slice_get x.threads 0) (λ th. entered funs x (entry.Wake t)) y h in
      let w = woken_by t (due_of t x.sleepers) x y g.3 in (
        wakes t (untimed x),
        wake_is t 0 (untimed x) g.0 g.1 g.2 (due_still t x.sleepers ∙ ap now_due w.1) refl,
        wakes_alike t x ∙ ap untimed w.3,
      )

  -- who wakes without time: main hasn't finished, and the thread sleeps
  sleeper_of : (t : ℕ) (x z : SlotState) → next funs (untimed x) (entry.Wake t) ≡ Some z →
      (main : SlotThread) × (slice_get x.threads 0 ≡ Some main) × (main.finished ≡ false) × ((due : ℕ) × (due_of t x.sleepers ≡ Some due)) × (wakes t (untimed x) ≡ z)
  sleeper_of t x z h =
      let g = thread_there (slice_get x.threads 0) (λ th. entered funs (untimed x) (entry.Wake t)) z h in
      let w = woken_by t (due_of t (untimed x).sleepers) (untimed x) z g.3 in
      (g.0, g.1, g.2, sleeps_too (due_of t x.sleepers) w.0 (sym (due_still t x.sleepers) ∙ w.1), w.3)

  module _ (t due : ℕ) (x : SlotState) (main : SlotThread) (is : slice_get x.threads 0 ≡ Some main) (f : main.finished ≡ false) (d : due_of t x.sleepers ≡ Some due) where
    wakes_at : (b : Bool) → nat_le due x.clock ≡ b → (y : SlotState) × (next funs (cond b x (ticks due x)) (entry.Wake t) ≡ Some y) × (untimed y ≡ untimed (wakes t (untimed x)))
    wakes_at true come = (wakes t x, wake_is t due x main is f d come, sym (wakes_alike t x))
    wakes_at false come = (wakes t (ticks due x), wake_is t due (ticks due x) main is f d (le_itself due), sym (wakes_alike t x))

    ticks_at : (b : Bool) → nat_le due x.clock ≡ b → (cond b x (ticks due x) ≡ x) ⊎ (next funs x (entry.Tick due) ≡ Some (cond b x (ticks due x)))
    ticks_at true come = inl refl
    ticks_at false come = inr (tick_is due x main is f (le_back due x.clock come))

    wakes_due : (y : SlotState) × (next funs (ticked_to (due_of t x.sleepers) x) (entry.Wake t) ≡ Some y) × (untimed y ≡ untimed (wakes t (untimed x)))
    wakes_due = subst (λ o. (y : SlotState) × (next funs (ticked_to o x) (entry.Wake t) ≡ Some y) × (untimed y ≡ untimed (wakes t (untimed x)))) (sym d) (wakes_at (nat_le due x.clock) refl)

    ticks_due : (ticked_to (due_of t x.sleepers) x ≡ x) ⊎ (next funs x (entry.Tick due) ≡ Some (ticked_to (due_of t x.sleepers) x))
    ticks_due = subst (λ o. (ticked_to o x ≡ x) ⊎ (next funs x (entry.Tick due) ≡ Some (ticked_to o x))) (sym d) (ticks_at (nat_le due x.clock) refl)

  wake_back : (t : ℕ) (x z : SlotState) → next funs (untimed x) (entry.Wake t) ≡ Some z → (y : SlotState) × (next funs (due_first x (entry.Wake t)) (entry.Wake t) ≡ Some y) × (untimed y ≡ untimed z)
  wake_back t x z h =
      let s = sleeper_of t x z h in
      let w = wakes_due t s.3.0 x s.0 s.1 s.2 s.3.1 in
      (w.0, w.1, w.2 ∙ ap untimed s.4)

  -- ---- each entry, forth and back
  other_forth : (x y : SlotState) (e : Entry) → next funs x e ≡ Some y → Alikes (next funs (untimed x) e) (next funs x e) → (z : SlotState) × (next funs (untimed x) e ≡ Some z) × (untimed z ≡ untimed y)
  other_forth x y e h a = alike_there (next funs (untimed x) e) y (subst (Alikes (next funs (untimed x) e)) h a)

  other_back : (x z : SlotState) (e : Entry) → next funs (untimed x) e ≡ Some z → Alikes (next funs (untimed x) e) (next funs x e) → (y : SlotState) × (next funs x e ≡ Some y) × (untimed y ≡ untimed z)
  other_back x z e h a = alike_there (next funs x e) z (sym (subst (λ o. Alikes o (next funs x e)) h a))

  pub next_forth : (x y : SlotState) (e : Entry) → next funs x e ≡ Some y → ¬ IsTick e → ¬ ReadsClock x e → (z : SlotState) × (next funs (untimed x) e ≡ Some z) × (untimed z ≡ untimed y)
  next_forth x y (entry.Wake t) h a c = wake_forth t x y h
  next_forth x y e h a c = other_forth x y e h (next_alike funs x e a (λ n. n) c)

  pub next_back : (x z : SlotState) (e : Entry) → next funs (untimed x) e ≡ Some z → ¬ IsTick e → ¬ ReadsClock x e → (y : SlotState) × (next funs (due_first x e) e ≡ Some y) × (untimed y ≡ untimed z)
  next_back x z (entry.Wake t) h a c = wake_back t x z h
  next_back x z (entry.Tick now) h a c = absurd (a tt)
  next_back x z e h a c = other_back x z e h (next_alike funs x e a (λ n. n) c)

  -- the state in which an entry is entered is the state itself, or left by a Tick
  abbrev OrTicks : SlotState → Entry → Type 0
  OrTicks x e = (due_first x e ≡ x) ⊎ ((t : ℕ) × (due : ℕ) × (e ≡ entry.Wake t) × (due_of t x.sleepers ≡ Some due) × (next funs x (entry.Tick due) ≡ Some (due_first x e)))

  wake_ticks : (t : ℕ) (x z : SlotState) → next funs (untimed x) (entry.Wake t) ≡ Some z → OrTicks x (entry.Wake t)
  wake_ticks t x z h =
      let s = sleeper_of t x z h in
      elim (ticks_due t s.3.0 x s.0 s.1 s.2 s.3.1) [ inl e ↦ inl e | inr k ↦ inr (t, s.3.0, refl, s.3.1, k) ]

  pub or_ticks : (x z : SlotState) (e : Entry) → next funs (untimed x) e ≡ Some z → OrTicks x e
  or_ticks x z (entry.Wake t) h = wake_ticks t x z h
  or_ticks x z _ h = inl refl
