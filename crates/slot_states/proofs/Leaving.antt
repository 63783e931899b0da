-- What stays, and what changes, where threads are blocked no more.
use Rattle.std.proofs.Common.{◌≡◌, ℕ, zero, suc, ◌==◌, List, [], ◌∷◌, length, slice_get, true, false, Option, Some, None, refl, sym, ap, ◌∙◌, subst, ⊎_elim}
use Rattle.rules_meaning.specs.Values.{V}
use Rattle.rules_waiting.specs.Waiting.{Reason, Throwing, Sleeping, Waiting, Flying, Sleeper, leaves, is_blocked, reason_of, at_cell, with_flying, flight_of, with_sleeper, sleepers_of}
use Rattle.rules_waiting.specs.OneCell.{Cell, cell_of, leaves_line}
use Rattle.hs_rules.specs.Terms.{Part}
use Rattle.hs_rules.specs.State.{Thread, State, resume, resume_all}
use Rattle.hs_laws.specs.Standing.{Once}
use Rattle.hs_laws.proofs.Lists.{cond_true, cond_false, equal_or, once_left, Distinct, Ones, ones_apart}
use Rattle.hs_laws.proofs.CellSteps.{reason_left, leaves_absent}
use Rattle.exn_flight.proofs.OneList.{flight_leaves}
use Rattle.slot_laws.specs.SlotRules.{SlotPart}
use Rattle.slot_laws.specs.Standing.{EndsAs}
use Rattle.slot_states.specs.SlotStates.{SlotThread, resumed, all_resumed, left_lines, all_withdrawn}
use Rattle.slot_states.proofs.Following.{Follow, follow_resume}

-- ---- what the list of blocked threads says, where it says nothing of some reasons
module _ {X : Type 0} (says : List (Waiting V) → X) (step : ℕ → Reason V → X → X) (Other : Option (Reason V) → Type 0) (more : (w : Waiting V) (ws : List (Waiting V)) → says (w ∷ ws) ≡ step w.thread w.reason (says ws))
    (none : (t : ℕ) (r : Reason V) (x : X) → Other (Some r) → step t r x ≡ x) where
  -- a thread that waits for another reason may leave
  pub stays : (t : ℕ) (ws : List (Waiting V)) → Once ws → Other (reason_of t ws) → says (leaves t ws) ≡ says ws
  stays t [] o h = refl
  stays t (w ∷ ws) o h =
      ⊎_elim
      (λ e.
      let free : is_blocked t ws ≡ false = subst (λ u. is_blocked u ws ≡ false) e.1 o.0 in
      ap says (cond_true (w.thread == t) (leaves t ws) (w ∷ leaves t ws) e.0)
      ∙ (ap says (leaves_absent t ws free)
      ∙ sym (more w ws ∙ none w.thread w.reason (says ws) (subst Other (cond_true (w.thread == t) (Some w.reason) (reason_of t ws) e.0) h))))
      (λ e.
      ap says (cond_false (w.thread == t) (leaves t ws) (w ∷ leaves t ws) e.0)
      ∙ (more w (leaves t ws)
      ∙ (ap (step w.thread w.reason) (stays t ws o.1 (subst Other (cond_false (w.thread == t) (Some w.reason) (reason_of t ws) e.0) h)) ∙ sym (more w ws))))
      (equal_or w.thread t)

  -- and so may all these
  pub stays_all : (ts : List ℕ) (p : Part) (u : State) → Once u.blocked → Distinct ts → Ones (λ t. Other (reason_of t u.blocked)) ts → says (resume_all ts p u).blocked ≡ says u.blocked
  stays_all [] p u o d h = refl
  stays_all (t ∷ ts) p u o d h =
      stays_all ts p (resume t p u) (once_left t u.blocked o) d.1
      (ones_apart (λ v. Other (reason_of v u.blocked)) (λ v. Other (reason_of v (leaves t u.blocked))) t ts (λ v n k. subst Other (sym (reason_left t v u.blocked n)) k) d.0 h.1)
      ∙ stays t u.blocked o h.0

-- ---- who throws nothing, and who doesn't sleep
abbrev pub Silent : Option (Reason V) → Type 0
Silent (Some (Throwing u e)) = ⊥
Silent _ = Unit {0}

abbrev pub Awake : Option (Reason V) → Type 0
Awake (Some (Sleeping due)) = ⊥
Awake _ = Unit {0}

pub no_flying : (t : ℕ) (r : Reason V) (fs : List Flying) → Silent (Some r) → with_flying t r fs ≡ fs
no_flying t (Throwing u e) fs h = absurd h
no_flying t _ fs h = refl

pub no_sleeper : (t : ℕ) (r : Reason V) (ss : List Sleeper) → Awake (Some r) → with_sleeper t r ss ≡ ss
no_sleeper t (Sleeping due) ss h = absurd h
no_sleeper t _ ss h = refl

-- who waits at a cell does neither
pub cell_waits : (r : Reason V) → at_cell r ≡ true → Silent (Some r) × Awake (Some r)
cell_waits (Throwing u x) e = absurd (cc e)
cell_waits (Sleeping due) e = absurd (cc e)
cell_waits _ e = (tt, tt)

pub flight_stays : (t : ℕ) (ws : List (Waiting V)) → Once ws → Silent (reason_of t ws) → flight_of (leaves t ws) ≡ flight_of ws
flight_stays = stays flight_of with_flying Silent (λ w ws. refl) no_flying

pub sleepers_stay : (t : ℕ) (ws : List (Waiting V)) → Once ws → Awake (reason_of t ws) → sleepers_of (leaves t ws) ≡ sleepers_of ws
sleepers_stay = stays sleepers_of with_sleeper Awake (λ w ws. refl) no_sleeper

pub flight_stays_all : (ts : List ℕ) (p : Part) (u : State) → Once u.blocked → Distinct ts → Ones (λ t. Silent (reason_of t u.blocked)) ts → flight_of (resume_all ts p u).blocked ≡ flight_of u.blocked
flight_stays_all = stays_all flight_of with_flying Silent (λ w ws. refl) no_flying

pub sleepers_stay_all : (ts : List ℕ) (p : Part) (u : State) → Once u.blocked → Distinct ts → Ones (λ t. Awake (reason_of t u.blocked)) ts → sleepers_of (resume_all ts p u).blocked ≡ sleepers_of u.blocked
sleepers_stay_all = stays_all sleepers_of with_sleeper Awake (λ w ws. refl) no_sleeper

-- ---- lines
abbrev pub out_of_line : ℕ → Option (Cell V) → Option (Cell V)
out_of_line t None = None
out_of_line t (Some c) = Some (cell_of c.content (leaves_line t c.line))

pub left_cell : (t m : ℕ) (cs : List (Cell V)) → slice_get (left_lines t cs) m ≡ out_of_line t (slice_get cs m)
left_cell t m [] = refl
left_cell t zero (c ∷ cs) = refl
left_cell t (suc m) (c ∷ cs) = left_cell t m cs

pub left_count : (t : ℕ) (cs : List (Cell V)) → length (left_lines t cs) ≡ length cs
left_count t [] = refl
left_count t (c ∷ cs) = ap suc (left_count t cs)

-- ---- some threads get a part
pub record SameRest (s u : State) : Type 0 where
  pub cells : u.cells ≡ s.cells
  pub clock : u.clock ≡ s.clock
  pub instances : u.next_instance ≡ s.next_instance
  pub timeouts : u.next_timeout ≡ s.next_timeout
  pub output : u.output ≡ s.output
  pub errors : u.errors ≡ s.errors

pub rest_all : (ts : List ℕ) (p : Part) (s : State) → SameRest s (resume_all ts p s)
rest_all [] p s = record { cells = refl; clock = refl; instances = refl; timeouts = refl; output = refl; errors = refl }
rest_all (t ∷ ts) p s = let k = rest_all ts p (resume t p s) in record { cells = k.cells; clock = k.clock; instances = k.instances; timeouts = k.timeouts; output = k.output; errors = k.errors }

pub flight_all : (ts : List ℕ) (p : Part) (s : State) → flight_of (resume_all ts p s).blocked ≡ all_withdrawn ts (flight_of s.blocked)
flight_all [] p s = refl
flight_all (t ∷ ts) p s = flight_all ts p (resume t p s) ∙ ap (all_withdrawn ts) (flight_leaves t s.blocked)

pub follow_resume_all : (xs : List SlotThread) (ss : List Thread) (ts : List ℕ) (p : SlotPart) (q : Part) → EndsAs q p → (ys : List SlotThread) (u : State) → Follow xs ss ys u.threads u.blocked →
    Follow xs ss (all_resumed ts p ys) (resume_all ts q u).threads (resume_all ts q u).blocked
follow_resume_all xs ss [] p q end ys u f = f
follow_resume_all xs ss (t ∷ ts) p q end ys u f = follow_resume_all xs ss ts p q end (resumed t p ys) (resume t q u) (follow_resume xs ss ys u.threads u.blocked f t p q end)
