-- Whatever has a next state is among the entries to try.
use Rattle.std.proofs.Common.{◌≡◌, ◌+◌, ◌==◌, ℕ, zero, suc, Bool, true, false, cond, List, [], ◌∷◌, ◌++◌, map, Option, Some, None, slice_get, refl, sym, ap, ◌∙◌, subst, arith}
use Rattle.std.specs.List.{Contains}
use Rattle.std.proofs.lemmas.Option.{same_Some}
use Rattle.std.proofs.lemmas.List.Elements.{Contains-append_left, Contains-append_right}
use Rattle.std.proofs.lemmas.Bool.{eqb-true}
use Rattle.hs_base.specs.declared.clock_choice.ClockChoice.{ClockChoice}
use Rattle.hs_base.specs.declared.mask.Mask.TheVariants.{Unmasked}
use Rattle.hs_rules.specs.declared.entry.Entry.{Entry}
use Rattle.hs_rules.specs.declared.entry.Entry.TheVariants as entry
use Rattle.hs_rules.specs.Endings.{IsTick}
use Rattle.rules_code.specs.CodeTrees.{SlottedFunction}
use Rattle.rules_waiting.specs.Waiting.{Sleeper}
use Rattle.exn_flight.specs.Asleep.{due_of}
pub use Rattle.hs_laws.proofs.Lists.{item_below as there_below}
use Rattle.slot_laws.specs.SlotRules.{SlotTerm, on_term, local, locals}
use Rattle.slot_states.specs.SlotStates.{SlotThread, SlotState}
use Rattle.slot_states.specs.entering.Entering.{next, on_thread, entered, local_entry, moved, operates, receive_entry, ended, woken}
use Rattle.slot_states.proofs.entering_lemmas.Passing.{passed_not, thread_there, thread_leaves, none_or}
use Rattle.search_laws.specs.Shown.{Shown}
use Rattle.search_laws.specs.Going.{IsStill, MayTake}
use Rattle.search_laws.specs.Found.{Edge, IsFollowed, IsGone, entries_at, entries_from, wake_of, candidates}

-- ---- where main goes on

-- what may have a next state there, in a state whose main thread hasn't finished
abbrev tried : SlotState → List Entry
tried x = (entries_from 0 x.threads ++ map wake_of x.sleepers) ++ entry.Stranded ∷ []

goes_contains : (x : SlotState) (main : SlotThread) → slice_get x.threads 0 ≡ Some main → main.finished ≡ false → (e : Entry) → Contains (tried x) e → Contains (candidates x) e
goes_contains x main is f e c = rw is (rw f c)

-- ---- by threads

from_contain : (ths : List SlotThread) (t i : ℕ) (th : SlotThread) → slice_get ths i ≡ Some th → (e : Entry) → Contains (entries_at (t + i) th) e → Contains (entries_from t ths) e
from_contain [] t i th is e c = absurd (cc is)
from_contain (u ∷ us) t zero th is e c =
    let same : th ≡ u = same_Some th u (sym is) in
    let here : t + zero ≡ t = omega arith in
    Contains-append_left (entries_at t u) (entries_from (suc t) us) e (subst (λ v. Contains (entries_at t v) e) same (subst (λ n. Contains (entries_at n th) e) here c))
from_contain (u ∷ us) t (suc i) th is e c =
    let on : t + suc i ≡ suc t + i = omega arith in
    Contains-append_right (entries_at t u) (entries_from (suc t) us) e (from_contain us (suc t) i th is e (subst (λ n. Contains (entries_at n th) e) on c))

-- of a thread that is there
thread_tried : (x : SlotState) (t : ℕ) (th : SlotThread) → slice_get x.threads t ≡ Some th → (e : Entry) → Contains (entries_at t th) e → Contains (tried x) e
thread_tried x t th is e c =
    let counted : t ≡ 0 + t = omega arith in
    Contains-append_left (entries_from 0 x.threads ++ map wake_of x.sleepers) (entry.Stranded ∷ []) e
    (Contains-append_left (entries_from 0 x.threads) (map wake_of x.sleepers) e
    (from_contain x.threads 0 t th is e (subst (λ n. Contains (entries_at n th) e) counted c)))

-- ---- each of a thread that hasn't finished

local_at : (t : ℕ) (th : SlotThread) → th.finished ≡ false → th.blocked ≡ false → Contains (entries_at t th) (entry.Local t 1)
local_at t th f b = rw f (rw b (0, omega arith, refl))

op_at : (t : ℕ) (th : SlotThread) → th.finished ≡ false → th.blocked ≡ false → Contains (entries_at t th) (entry.Op t)
op_at t th f b = rw f (rw b (1, omega arith, refl))

finish_at : (t : ℕ) (th : SlotThread) → th.finished ≡ false → th.blocked ≡ false → Contains (entries_at t th) (entry.Finish t)
finish_at t th f b = rw f (rw b (3, omega arith, refl))

receive_by : (t : ℕ) (th : SlotThread) (b : Bool) → th.finished ≡ false → th.blocked ≡ b → Contains (entries_at t th) (entry.Receive t)
receive_by t th true f b = rw f (rw b (0, omega arith, refl))
receive_by t th false f b = rw f (rw b (2, omega arith, refl))

-- ---- by sleepers

contains_more : (y e : Entry) (es : List Entry) → Contains es e → Contains (y ∷ es) e
contains_more y e es c = Contains-append_right (y ∷ []) es e c

contains_here : (e : Entry) (es : List Entry) → Contains (e ∷ es) e
contains_here e es = (0, omega arith, refl)

wake_at : (t due : ℕ) (r : Sleeper) (rs : List Sleeper) (b : Bool) → (r.thread == t) ≡ b → (due_of t rs ≡ Some due → Contains (map wake_of rs) (entry.Wake t)) → cond b (Some r.due) (due_of t rs) ≡ Some due → Contains (map wake_of (r ∷ rs)) (entry.Wake t)
wake_at t due r rs true same rest h = subst (λ u. Contains (entry.Wake r.thread ∷ map wake_of rs) (entry.Wake u)) (eqb-true r.thread t same) (contains_here (entry.Wake r.thread) (map wake_of rs))
wake_at t due r rs false other rest h = contains_more (wake_of r) (entry.Wake t) (map wake_of rs) (rest h)

wake_contains : (t due : ℕ) (rs : List Sleeper) → due_of t rs ≡ Some due → Contains (map wake_of rs) (entry.Wake t)
wake_contains t due [] e = absurd (cc e)
wake_contains t due (r ∷ rs) e = wake_at t due r rs (r.thread == t) refl (wake_contains t due rs) e

sleeper_tried : (x : SlotState) (t due : ℕ) → due_of t x.sleepers ≡ Some due → Contains (tried x) (entry.Wake t)
sleeper_tried x t due e =
    Contains-append_left (entries_from 0 x.threads ++ map wake_of x.sleepers) (entry.Stranded ∷ []) (entry.Wake t)
    (Contains-append_right (entries_from 0 x.threads) (map wake_of x.sleepers) (entry.Wake t) (wake_contains t due x.sleepers e))

woken_due : (t : ℕ) (o : Option ℕ) (x z : SlotState) → woken t o x ≡ Some z → (due : ℕ) × (o ≡ Some due)
woken_due t None x z e = absurd (cc e)
woken_due t (Some due) x z e = (due, refl)

-- ---- each

-- a Local of one step, and any entry of another kind
abbrev pub IsOneStep : Entry → Type 0
IsOneStep (entry.Local t k) = k ≡ 1
IsOneStep _ = Unit {0}

module _ (funs : List SlottedFunction) (x z : SlotState) where
  main_entered : (e : Entry) → next funs x e ≡ Some z → entered funs x e ≡ Some z
  main_entered e h = (thread_there (slice_get x.threads 0) (λ main. entered funs x e) z h).3

  -- what is tried where main goes on is a candidate, since whatever leads somewhere found main so
  tried_contains : (e : Entry) → next funs x e ≡ Some z → Contains (tried x) e → Contains (candidates x) e
  tried_contains e h c = let m = thread_there (slice_get x.threads 0) (λ main. entered funs x e) z h in goes_contains x m.0 m.1 m.2 e c

  -- of a thread that may not be blocked
  open_contains : (t : ℕ) (e : Entry) (k : SlotThread → Option SlotState) → entered funs x e ≡ on_thread (slice_get x.threads t) (λ th. cond th.blocked None (k th)) → next funs x e ≡ Some z
      → ((th : SlotThread) → th.finished ≡ false → th.blocked ≡ false → Contains (entries_at t th) e) → Contains (candidates x) e
  open_contains t e k by h own =
      let th = thread_there (slice_get x.threads t) (λ th. cond th.blocked None (k th)) z (sym by ∙ main_entered e h) in
      let free = passed_not th.0.blocked (k th.0) z th.3 in
      tried_contains e h (thread_tried x t th.0 th.1 e (own th.0 th.2 free.0))

  pub leads_among : (e : Entry) → IsOneStep e → ¬ IsTick e → next funs x e ≡ Some z → Contains (candidates x) e
  leads_among (entry.Local t zero) one plain h = absurd (cc one)
  leads_among (entry.Local t (suc k)) one plain h =
      open_contains t (entry.Local t (suc k)) (λ th. moved t (locals funs Unmasked (suc k) th.term) x) refl h
      (λ th f b. subst (λ m. Contains (entries_at t th) (entry.Local t m)) (sym one) (local_at t th f b))
  leads_among (entry.Op t) one plain h = open_contains t (entry.Op t) (λ th. operates t th.term.frames th.term.part x) refl h (op_at t)
  leads_among (entry.Receive t) one plain h =
      let th = thread_there (slice_get x.threads t) (λ th. receive_entry t th x) z (main_entered (entry.Receive t) h) in
      tried_contains (entry.Receive t) h (thread_tried x t th.0 th.1 (entry.Receive t) (receive_by t th.0 th.0.blocked th.2 refl))
  leads_among (entry.Finish t) one plain h = open_contains t (entry.Finish t) (λ th. ended t th.term.frames th.term.part x) refl h (finish_at t)
  leads_among (entry.Wake t) one plain h =
      let d = woken_due t (due_of t x.sleepers) x z (main_entered (entry.Wake t) h) in
      tried_contains (entry.Wake t) h (sleeper_tried x t d.0 d.1)
  leads_among (entry.Tick at) one plain h = absurd (plain tt)
  leads_among entry.Stranded one plain h =
      tried_contains entry.Stranded h (Contains-append_right (entries_from 0 x.threads ++ map wake_of x.sleepers) (entry.Stranded ∷ []) entry.Stranded (contains_here entry.Stranded []))

-- ---- a Local of more steps

on_term_some : (o : Option SlotTerm) (k : SlotTerm → Option SlotTerm) (t : ℕ) (x z : SlotState) → moved t (on_term o k) x ≡ Some z → (u : SlotTerm) × (o ≡ Some u)
on_term_some None k t x z e = absurd (cc e)
on_term_some (Some u) k t x z e = (u, refl)

local_once : (funs : List SlottedFunction) (x z : SlotState) (t k : ℕ) → next funs x (entry.Local t (suc k)) ≡ Some z → (y : SlotState) × (next funs x (entry.Local t 1) ≡ Some y)
local_once funs x z t k h =
    let m = thread_there (slice_get x.threads 0) (λ main. on_thread (slice_get x.threads t) (λ th. local_entry funs t (suc k) th x)) z h in
    let th = thread_there (slice_get x.threads t) (λ th. local_entry funs t (suc k) th x) z m.3 in
    let free = passed_not th.0.blocked (moved t (locals funs Unmasked (suc k) th.0.term) x) z th.3 in
    let u = on_term_some (local funs Unmasked th.0.term.part th.0.term.frames) (λ v. locals funs Unmasked k v) t x z free.1 in (
      _,
      thread_leaves (slice_get x.threads 0) (λ main. on_thread (slice_get x.threads t) (λ v. local_entry funs t 1 v x)) m.0 _ m.1 m.2
          (thread_leaves (slice_get x.threads t) (λ v. local_entry funs t 1 v x) th.0 _ th.1 th.2
          (ap (λ b. cond b None (moved t (locals funs Unmasked 1 th.0.term) x)) free.0 ∙ ap (λ o. moved t (on_term o (λ v. Some v)) x) u.1)),
    )

-- ---- all

module _ (funs : List SlottedFunction) (x : SlotState) (none : (e : Entry) → Contains (candidates x) e → next funs x e ≡ None) where
  none_leads : (e : Entry) → IsOneStep e → ¬ IsTick e → (z : SlotState) → next funs x e ≡ Some z → ⊥
  none_leads e one plain z h = let q : ◌≡◌ {A = Option SlotState} None (Some z) = sym (none e (leads_among funs x z e one plain h)) ∙ h in cc q

  no_next : (e : Entry) → ¬ IsTick e → (z : SlotState) → next funs x e ≡ Some z → ⊥
  no_next (entry.Local t zero) plain z h =
      let th = thread_there (slice_get x.threads t) (λ v. local_entry funs t zero v x) z (main_entered funs x z (entry.Local t zero) h) in
      let q : ◌≡◌ {A = Option SlotState} None (Some z) = th.3 in cc q
  no_next (entry.Local t (suc k)) plain z h = let y = local_once funs x z t k h in none_leads (entry.Local t 1) refl plain y.0 y.1
  no_next (entry.Tick at) plain z h = absurd (plain tt)
  no_next e plain z h = none_leads e tt plain z h

  -- where none of them has a next state, no entry but a Tick has
  pub all_still : IsStill funs x
  all_still e plain = none_or (next funs x e) (λ z h. no_next e plain z h)

-- where each of them that has a next state has its edge, and so a Tick, each entry that may be taken has
pub all_gone : (clock : ClockChoice) (funs : List SlottedFunction) (edges : List Edge) (i : ℕ) (c : Shown) → ((e : Entry) → Contains (candidates c.slots) e → IsFollowed funs edges i c e)
    → ((at : ℕ) → MayTake clock funs c.slots (entry.Tick at) → IsFollowed funs edges i c (entry.Tick at)) → IsGone clock funs edges i c
all_gone clock funs edges i c each tick (entry.Tick at) m z h = tick at m z h
all_gone clock funs edges i c each tick (entry.Local t k) m z h = each (entry.Local t k) (leads_among funs c.slots z (entry.Local t k) m (λ q. q) h) z h
all_gone clock funs edges i c each tick e m z h = each e (leads_among funs c.slots z e tt (λ q. q) h) z h
