-- A history has at most one ending, and after main's end nothing is legal.
use Rattle.std.proofs.Common.{◌≡◌, ℕ, ◌+◌, ◌≤◌, arith, List, [], ◌∷◌, ◌++◌, Bool, true, false, cond, slice_get, Option, Some, None, refl, sym, ap, ◌∙◌, subst, ◌⊎◌, inl, inr, ⊎_elim, append-nil}
use Rattle.std.proofs.lemmas.Option.{same_Some}
use Rattle.hs_base.specs.declared.limits.Limits.{Limits}
use Rattle.hs_rules.specs.declared.entry.Entry.{Entry}
use Rattle.hs_rules.specs.declared.entry.LimitKind.{LimitKind}
use Rattle.hs_rules.specs.declared.entry.LimitKind.TheVariants.{Threads, Cells, Frames, Output}
use Rattle.rules_expansion.specs.trees.Programs.{Fn}
use Rattle.rules_meaning.specs.CoreMeaning.{Code, code_of}
use Rattle.hs_rules.specs.State.{Thread, State}
use Rattle.hs_rules.specs.Entries.{on_thread, next, Leads}
use Rattle.hs_rules.specs.Entries as entries
use Rattle.hs_rules.specs.Runs.{after}
use Rattle.hs_rules.specs.Histories.{steps_of, cost_of}
use Rattle.hs_rules.specs.Endings.{IsTick, Exceeds, RunEnding, Done, Uncaught, Deadlock, Fuel, is_ret, result_of, ended_by, IsDone, IsUncaught, Ends, IsWithin, FirstExceeded}
use Rattle.hs_laws.specs.HistoryEndings.{HasEnding, HasLimit, StaysWithin}
use Rattle.hs_laws.specs.cases.Cases as row
use Rattle.hs_laws.proofs.cases_lemmas.Entering.{case_of}
use Rattle.hs_rules.specs.declared.entry.Entry.TheVariants as entry
use Rattle.hs_laws.proofs.RunParts.{is_after, same_after}

-- ---- at most one

pub one_ending : (a b : RunEnding) (code : Code) (s : State) (steps fuel : ℕ) → Ends a code s steps fuel → Ends b code s steps fuel → a ≡ b
one_ending Done Done code s n f h g = refl
one_ending Done Uncaught code s n f h g = absurd (g.0 h)
one_ending Done Deadlock code s n f h g = absurd (g.0 h)
one_ending Done Fuel code s n f h g = absurd (g.0 h)
one_ending Uncaught Done code s n f h g = absurd (h.0 g)
one_ending Uncaught Uncaught code s n f h g = refl
one_ending Uncaught Deadlock code s n f h g = absurd (g.1 h.1)
one_ending Uncaught Fuel code s n f h g = absurd (g.1 h.1)
one_ending Deadlock Done code s n f h g = absurd (h.0 g)
one_ending Deadlock Uncaught code s n f h g = absurd (h.1 g.1)
one_ending Deadlock Deadlock code s n f h g = refl
one_ending Deadlock Fuel code s n f h g = absurd (g.2 h.2)
one_ending Fuel Done code s n f h g = absurd (h.0 g)
one_ending Fuel Uncaught code s n f h g = absurd (h.1 g.1)
one_ending Fuel Deadlock code s n f h g = absurd (h.2 g.2)
one_ending Fuel Fuel code s n f h g = refl

pub ending_of : (a b : RunEnding) (ds : List Fn) (es : List Entry) (fuel : ℕ) → HasEnding a ds es fuel → HasEnding b ds es fuel → a ≡ b
ending_of a b ds es fuel h g =
    let same : h.state ≡ g.state = same_after ds es h.state g.state h.run (is_after ds es g.state g.run) in
    one_ending a b (code_of ds) g.state (steps_of es) fuel (subst (λ x. Ends a (code_of ds) x (steps_of es) fuel) same h.ends) g.ends

pub one_limit : (a b : LimitKind) (limits : Limits) (s : State) → FirstExceeded a limits s → FirstExceeded b limits s → a ≡ b
one_limit Threads Threads l s h g = refl
one_limit Threads Cells l s h g = absurd (g.0 h)
one_limit Threads Frames l s h g = absurd (g.0 h)
one_limit Threads Output l s h g = absurd (g.0 h)
one_limit Cells Threads l s h g = absurd (h.0 g)
one_limit Cells Cells l s h g = refl
one_limit Cells Frames l s h g = absurd (g.1 h.1)
one_limit Cells Output l s h g = absurd (g.1 h.1)
one_limit Frames Threads l s h g = absurd (h.0 g)
one_limit Frames Cells l s h g = absurd (h.1 g.1)
one_limit Frames Frames l s h g = refl
one_limit Frames Output l s h g = absurd (g.2 h.2)
one_limit Output Threads l s h g = absurd (h.0 g)
one_limit Output Cells l s h g = absurd (h.1 g.1)
one_limit Output Frames l s h g = absurd (h.2 g.2)
one_limit Output Output l s h g = refl

-- ---- after main's end

ended_none : (o : Option Thread) (value : Bool) (k : Thread → Option State) → ended_by (result_of o) value → on_thread o k ≡ None
ended_none None value k h = absurd h
ended_none (Some th) value k h = by th.finished h
  where
    by : (b : Bool) → ended_by (cond b (Some th.term.part) None) value → cond b None (k th) ≡ None
    by true h = refl
    by false h = absurd h

pub done_is_over : (code : Code) (s : State) (e : Entry) → IsDone s ⊎ IsUncaught s → next code s e ≡ None
done_is_over code s e (inl h) = ended_none (slice_get s.threads 0) true (λ th. entries.entered code s e) h
done_is_over code s e (inr h) = ended_none (slice_get s.threads 0) false (λ th. entries.entered code s e) h

pub main_ends : (s : State) (th : Thread) → slice_get s.threads 0 ≡ Some th → th.finished ≡ true → IsDone s ⊎ IsUncaught s
main_ends s th is f = subst (λ o. ended_by (result_of o) true ⊎ ended_by (result_of o) false) (sym is) (subst (λ b. ended_by (cond b (Some th.term.part) None) true ⊎ ended_by (cond b (Some th.term.part) None) false) (sym f) (by (is_ret th.term.part)))
  where
    by : (b : Bool) → (b ≡ true) ⊎ (b ≡ false)
    by true = inl refl
    by false = inr refl

-- ---- limits

prefix_or : {A : Type 0} (es : List A) (e : A) (front back : List A) → es ++ e ∷ [] ≡ front ++ back → (front ≡ es ++ e ∷ []) ⊎ ((rest : List A) × (es ≡ front ++ rest))
prefix_or es e front [] h = inl (sym (h ∙ append-nil front))
prefix_or es e [] (x ∷ back) h = inr (es, refl)
prefix_or {A = A} [] e (y ∷ front) (x ∷ back) h = absurd (none front (let z : [] ≡ front ++ x ∷ back = cc h in z))
  where
    none : (xs : List A) → [] ≡ xs ++ x ∷ back → ⊥
    none [] q = cc q
    none (z ∷ zs) q = cc q
prefix_or (z ∷ es) e (y ∷ front) (x ∷ back) h =
    let a : z ≡ y = cc h in
    let b : es ++ e ∷ [] ≡ front ++ x ∷ back = cc h in
    ⊎_elim
    (λ k. inl (ap (λ w. w ∷ front) (sym a) ∙ ap (λ ws. z ∷ ws) k))
    (λ k. inr (k.0, ap (λ w. w ∷ es) a ∙ ap (λ ws. y ∷ ws) k.1))
    (prefix_or es e front (x ∷ back) b)

pub within_begins : (limits : Limits) (ds : List Fn) → ((s : State) → after ds [] ≡ Some s → IsWithin limits s) → StaysWithin limits ds []
within_begins limits ds h front back s split a = h s (subst (λ z. after ds z ≡ Some s) (nothing front back split) a)
  where
    nothing : (xs ys : List Entry) → [] ≡ xs ++ ys → xs ≡ []
    nothing [] ys q = refl
    nothing (x ∷ xs) ys q = absurd (cc q)

pub within_more : (limits : Limits) (ds : List Fn) (es : List Entry) (e : Entry) (u : State) → StaysWithin limits ds es → after ds (es ++ e ∷ []) ≡ Some u → IsWithin limits u → StaysWithin limits ds (es ++ e ∷ [])
within_more limits ds es e u h is w front back s split a =
    ⊎_elim
    (λ k. let same : u ≡ s = same_Some u s (sym is ∙ (ap (after ds) (sym k) ∙ a)) in subst (IsWithin limits) same w)
    (λ k. h front k.0 s k.1 a)
    (prefix_or es e front back split)

-- ---- an ending or a limit

-- what a Tick leaves uses as much of each limit
tick_uses : (kind : LimitKind) (limits : Limits) (s : State) (at : ℕ) → Exceeds kind limits (record s { clock = at }) → Exceeds kind limits s
tick_uses Threads limits s at h = h
tick_uses _ limits s at h = h

first_exceeds : (kind : LimitKind) (limits : Limits) (s : State) → FirstExceeded kind limits s → Exceeds kind limits s
first_exceeds Threads limits s h = h
first_exceeds Cells limits s h = h.1
first_exceeds Frames limits s h = h.2
first_exceeds Output limits s h = h.3

-- each legal entry costs something
costs : {code : Code} {e : Entry} {s u : State} → row.Enters code s e u → 1 ≤ cost_of e
costs (row.local m i b l) = omega arith
costs _ = omega arith

entry_costs : (code : Code) (s u : State) (e : Entry) → next code s e ≡ Some u → 1 ≤ cost_of e
entry_costs code s u e n = costs (case_of code s e u n)

tick_or : (e : Entry) → ((at : ℕ) × (e ≡ entry.Tick at)) ⊎ ¬ IsTick e
tick_or (entry.Tick at) = inl (at, refl)
tick_or _ = inr (λ z. z)

still_exceeds : (code : Code) (kind : LimitKind) (limits : Limits) (s u : State) (at : ℕ) → next code s (entry.Tick at) ≡ Some u → Exceeds kind limits u → Exceeds kind limits s
still_exceeds code kind limits s u at n = by (case_of code s (entry.Tick at) u n)
  where
    by : {s u : State} → row.Enters code s (entry.Tick at) u → Exceeds kind limits u → Exceeds kind limits s
    by (row.ticks {s = r} m q) h = tick_uses kind limits r at h

no_ending : (a : RunEnding) (code : Code) (kind : LimitKind) (limits : Limits) (e : Entry) (s u : State) (steps fuel : ℕ) → Leads code s e u → steps + cost_of e ≤ fuel → ¬ Exceeds kind limits s → Exceeds kind limits u → Ends a code s steps fuel → ⊥
no_ending Done code kind limits e s u n f l le w h g = let z : ◌≡◌ {A = Option State} None (Some u) = sym (done_is_over code s e (inl g)) ∙ l.0 in cc z
no_ending Uncaught code kind limits e s u n f l le w h g = let z : ◌≡◌ {A = Option State} None (Some u) = sym (done_is_over code s e (inr g.1)) ∙ l.0 in cc z
no_ending Deadlock code kind limits e s u n f l le w h g =
    ⊎_elim
    (λ k. w (still_exceeds code kind limits s u k.0 (subst (λ x. next code s x ≡ Some u) k.1 l.0) h))
    (λ k. g.2.0 e k (u, l))
    (tick_or e)
no_ending Fuel code kind limits e s u n f l le w h g = absurd (omega (arith, g.3, le, entry_costs code s u e l.0))

-- a history that has an ending isn't ended at a limit
pub not_both : (a : RunEnding) (kind : LimitKind) (e : Entry) (limits : Limits) (ds : List Fn) (es : List Entry) (fuel : ℕ) → StaysWithin limits ds es → HasLimit kind e limits ds es fuel → ¬ HasEnding a ds es fuel
not_both a kind e limits ds es fuel w h g =
    let same : g.state ≡ h.state = same_after ds es g.state h.state g.run (is_after ds es h.state h.run) in
    no_ending a (code_of ds) kind limits e h.state h.next (steps_of es) fuel h.leads h.affordable
    (w es [] h.state (sym (append-nil es)) (is_after ds es h.state h.run) kind) (first_exceeds kind limits h.next h.exceeds)
    (subst (λ x. Ends a (code_of ds) x (steps_of es) fuel) same g.ends)
