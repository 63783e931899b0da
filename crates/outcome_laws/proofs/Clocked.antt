-- Which histories keep the law of the clock: those that timeless runs are written out as, and those in virtual timing.
use Rattle.std.proofs.Common.{◌≡◌, ◌≢◌, ◌≤◌, ℕ, nat_le, ◌==◌, Bool, true, false, cond, List, [], ◌∷◌, ◌++◌, Option, Some, None, refl, sym, ap, ◌∙◌, subst, arith, inl, ⊎_elim, append_assoc, append-nil}
use Rattle.std.proofs.lemmas.Bool.{leb-false}
use Rattle.hs_base.specs.declared.clock_choice.ClockChoice.TheVariants.{Virtual}
use Rattle.hs_rules.specs.declared.entry.Entry.{Entry}
use Rattle.hs_rules.specs.declared.entry.Entry.TheVariants as entry
use Rattle.rules_expansion.specs.trees.Programs.{Fn}
use Rattle.rules_meaning.specs.Values.{V}
use Rattle.rules_meaning.specs.CoreMeaning.{code_of}
use Rattle.rules_waiting.specs.Waiting.{Reason, Sleeping, Sleeper, Waiting, reason_of, with_sleeper, sleepers_of, sleeper_before, sleeper_added, sorted_sleepers, earliest}
use Rattle.hs_rules.specs.State.{State}
use Rattle.hs_rules.specs.Runs.{Run, first_of, after, IsRun}
use Rattle.hs_rules.specs.Endings.{IsTick}
use Rattle.hs_laws.specs.ClockLaw.{IsFrom, EndsInTick, TickStands, ClockKept}
use Rattle.hs_laws.proofs.Ticking.{last_or, clock_begins, clock_works, clock_ticks}
use Rattle.hs_laws.proofs.RunParts.{is_after, run_join, run_more}
use Rattle.hs_laws.proofs.Later.{same_due}
use Rattle.exn_flight.proofs.Order.{before_due}
use Rattle.outcome_laws.specs.timing.WithoutTime.{timeless, TimelessRun, without_ticks, tick_until_due, with_its_tick}
use Rattle.outcome_laws.proofs.timing_lemmas.Timing.{none_sleeps, entry_back, time_ticks}
use Rattle.outcome_laws.specs.Timings.{MayTick, TickFits, TimedRun}

-- ---- the first of the sleepers

-- some sleeper is the first, and is due at this time or before
abbrev First : ℕ → Option ℕ → Type 0
First at o = (d : ℕ) × (o ≡ Some d) × (d ≤ at)

before_not : (r s : Sleeper) → sleeper_before r s ≡ false → s.due ≤ r.due
before_not r s h = grind arith

itself_by : (r s : Sleeper) (rs : List Sleeper) (b : Bool) → sleeper_before r s ≡ b → First s.due (earliest (cond b (r ∷ sleeper_added s rs) (s ∷ r ∷ rs)))
itself_by r s rs true e = (r.due, refl, before_due r s e)
itself_by r s rs false e = (s.due, refl, omega arith)

added_itself : (s : Sleeper) (rs : List Sleeper) → First s.due (earliest (sleeper_added s rs))
added_itself s [] = (s.due, refl, omega arith)
added_itself s (r ∷ rs) = itself_by r s rs (sleeper_before r s) refl

due_of : (r : Sleeper) (at : ℕ) → First at (Some r.due) → r.due ≤ at
due_of r at h = let e : r.due ≡ h.0 = cc h.1 in subst (λ n. n ≤ at) (sym e) h.2

others_by : (at : ℕ) (r s : Sleeper) (rs : List Sleeper) (b : Bool) → sleeper_before r s ≡ b → r.due ≤ at → First at (earliest (cond b (r ∷ sleeper_added s rs) (s ∷ r ∷ rs)))
others_by at r s rs true e h = (r.due, refl, h)
others_by at r s rs false e h = (s.due, refl, omega (arith, before_not r s e, h))

added_others : (at : ℕ) (s : Sleeper) (rs : List Sleeper) → First at (earliest rs) → First at (earliest (sleeper_added s rs))
added_others at s [] h = absurd (cc h.1)
added_others at s (r ∷ rs) h = others_by at r s rs (sleeper_before r s) refl (due_of r at h)

first_by : (t due k : ℕ) (r : Reason V) (b : Bool) (ss : List Sleeper) (o : Option (Reason V)) → (o ≡ Some (Sleeping due) → First due (earliest (sorted_sleepers ss))) →
    cond b (Some r) o ≡ Some (Sleeping due) → First due (earliest (sorted_sleepers (with_sleeper k r ss)))
first_by t due k (Sleeping d) true ss o f h =
    subst (λ n. First n (earliest (sleeper_added (record { thread = k; due = d }) (sorted_sleepers ss)))) (same_due d due h) (added_itself (record { thread = k; due = d }) (sorted_sleepers ss))
first_by t due k (Sleeping d) false ss o f h = added_others due (record { thread = k; due = d }) (sorted_sleepers ss) (f h)
first_by t due k _ true ss o f h = absurd (cc h)
first_by t due k _ false ss o f h = f h

-- who sleeps until then isn't due before the first
sleeper_first : (t due : ℕ) (ws : List (Waiting V)) → reason_of t ws ≡ Some (Sleeping due) → First due (earliest (sorted_sleepers (sleepers_of ws)))
sleeper_first t due [] h = absurd (cc h)
sleeper_first t due (w ∷ ws) h = first_by t due w.thread w.reason (w.thread == t) (sleepers_of ws) (reason_of t ws) (sleeper_first t due ws) h

from_first : (at : ℕ) (o : Option ℕ) → First at o → IsFrom at o
from_first at o h = subst (IsFrom at) (sym h.1) h.2

-- ---- the last entry

none_first : (front : List Entry) (x : Entry) → [] ≢ front ++ x ∷ []
none_first [] x h = cc h
none_first (y ∷ front) x h = cc h

no_tick_last : (es : List Entry) (e : Entry) → ¬ IsTick e → ¬ EndsInTick (es ++ e ∷ [])
no_tick_last es e n h = ⊎_elim (λ k. n (subst IsTick k.2 tt)) (λ k. none_first k.0 e k.1) (last_or es e h.0 (entry.Tick h.1) [] h.2)

no_tick_first : ¬ EndsInTick []
no_tick_first h = none_first h.0 (entry.Tick h.1) h.2

-- ---- one entry on time

-- a history keeps the law of the clock with no early Tick, and its last entry is no Tick
abbrev Kept : List Fn → List Entry → Type 0
Kept ds es = ClockKept ds es 0 × ¬ EndsInTick es

module _ (ds : List Fn) (hs : List Entry) (s : State) (is : after ds hs ≡ Some s) (h : Kept ds hs) where
  kept_alone : (e : Entry) → ¬ IsTick e → Kept ds (hs ++ e ∷ [])
  kept_alone e n = (clock_works ds hs e 0 n h.0, no_tick_last hs e n)

  module _ (t due : ℕ) (r : reason_of t s.blocked ≡ Some (Sleeping due)) (l : nat_le due s.clock ≡ false) where
    stands : TickStands (code_of ds) hs s due
    stands = record {
      wanted = inl (λ e. none_sleeps t due s.blocked e r);
      beside = λ e n g. (leb-false due s.clock l, h.1);
    }

    ticked : ClockKept ds (hs ++ entry.Tick due ∷ []) 0
    ticked = clock_ticks ds hs due 0 s is h.0 stands (λ q. from_first due _ (sleeper_first t due s.blocked r))

    woken_then : Kept ds (hs ++ entry.Tick due ∷ entry.Wake t ∷ [])
    woken_then =
        subst (Kept ds) (append_assoc hs (entry.Tick due ∷ []) (entry.Wake t ∷ []))
        (clock_works ds (hs ++ entry.Tick due ∷ []) (entry.Wake t) 0 (λ n. n) ticked, no_tick_last (hs ++ entry.Tick due ∷ []) (entry.Wake t) (λ n. n))

  kept_due : (t due : ℕ) → reason_of t s.blocked ≡ Some (Sleeping due) → (b : Bool) → nat_le due s.clock ≡ b → Kept ds (hs ++ cond b (entry.Wake t ∷ []) (entry.Tick due ∷ entry.Wake t ∷ []))
  kept_due t due r true l = kept_alone (entry.Wake t) (λ n. n)
  kept_due t due r false l = woken_then t due r l

  kept_wake : (t : ℕ) (o : Option (Reason V)) → reason_of t s.blocked ≡ o → Kept ds (hs ++ tick_until_due s.clock o (entry.Wake t ∷ []))
  kept_wake t (Some (Sleeping due)) r = kept_due t due r (nat_le due s.clock) refl
  kept_wake t _ r = kept_alone (entry.Wake t) (λ n. n)

  kept_on_time : (e : Entry) → ¬ IsTick e → Kept ds (hs ++ with_its_tick s e)
  kept_on_time (entry.Wake t) n = kept_wake t (reason_of t s.blocked) refl
  kept_on_time (entry.Tick at) n = absurd (n tt)
  kept_on_time e n = kept_alone e n

-- ---- histories

abbrev Written : List Fn → List Entry → State → List Entry → State → Type 0
Written ds hs s es w = (fs : List Entry) × (u : State) × Run (code_of ds) s fs u × (timeless u ≡ w) × (without_ticks fs ≡ es) × Kept ds (hs ++ fs)

pub written : (ds : List Fn) (hs : List Entry) (s w : State) (es : List Entry) → IsRun ds hs s → Kept ds hs → TimelessRun (code_of ds) (timeless s) es w → Written ds hs s es w
written ds hs s w [] i k h = ([], s, refl, h, refl, subst (Kept ds) (sym (append-nil hs)) k)
written ds hs s w (e ∷ es) i k h =
    let g = h.1 in
    let b = entry_back (code_of ds) s h.0 e g in
    let z = written ds (hs ++ with_its_tick s e) b.0 w es
    (i.0, i.1, run_join (code_of ds) hs (with_its_tick s e) i.0 s b.0 i.2 b.1)
    (kept_on_time ds hs s (is_after ds hs s i) k e g.3)
    (subst (λ q. TimelessRun (code_of ds) q es w) (sym b.2) h.2) in (
      with_its_tick s e ++ z.0,
      z.1,
      run_join (code_of ds) (with_its_tick s e) z.0 s b.0 z.1 b.1 z.2,
      z.3,
      time_ticks (code_of ds) s e z.0 g.3 ∙ ap (λ ys. e ∷ ys) z.4,
      subst (Kept ds) (append_assoc hs (with_its_tick s e) z.0) z.5,
    )

pub witness : (ds : List Fn) (s w : State) (es : List Entry) → first_of ds ≡ Some s → TimelessRun (code_of ds) (timeless s) es w →
    (fs : List Entry) × (u : State) × IsRun ds fs u × (timeless u ≡ w) × (without_ticks fs ≡ es) × ClockKept ds fs 0
witness ds s w es f h =
    let z = written ds [] s w es (s, f, refl) (clock_begins ds, no_tick_first) h in
    (z.0, z.1, (s, f, z.2), z.3, z.4, z.5.0)

-- ---- runs in virtual timing

pub none_due : (at : ℕ) (ss : List Sleeper) → earliest (sorted_sleepers ss) ≡ Some at → ss ≢ []
none_due at ss h e = let z : ◌≡◌ {A = Option ℕ} None (Some at) = ap (λ rs. earliest (sorted_sleepers rs)) (sym e) ∙ h in cc z

module _ (ds : List Fn) (s : State) (first : first_of ds ≡ Some s) where
  more_kept : (hs : List Entry) (q : State) (e : Entry) → IsRun ds hs q → ClockKept ds hs 0 → TickFits (MayTick Virtual (code_of ds)) q e → ClockKept ds (hs ++ e ∷ []) 0
  more_kept hs q (entry.Tick at) i k f =
      clock_ticks ds hs at 0 q (is_after ds hs q i) k (record { wanted = inl (none_due at (sleepers_of q.blocked) f.1); beside = λ e n g. absurd (f.0 e n g) })
      (λ d. subst (IsFrom at) (sym f.1) (omega arith))
  more_kept hs q e i k f = clock_works ds hs e 0 (λ z. z) k

  all_kept : (hs : List Entry) (q u : State) (es : List Entry) → IsRun ds hs q → ClockKept ds hs 0 → TimedRun Virtual (code_of ds) q es u → ClockKept ds (hs ++ es) 0
  all_kept hs q u [] i k h = subst (λ ys. ClockKept ds ys 0) (sym (append-nil hs)) k
  all_kept hs q u (e ∷ es) i k h =
      subst (λ ys. ClockKept ds ys 0) (append_assoc hs (e ∷ []) es)
      (all_kept (hs ++ e ∷ []) h.0 u es (run_more ds hs e q h.0 i h.1) (more_kept hs q e i k h.2) h.3)

pub virtual_kept : (ds : List Fn) (s u : State) (es : List Entry) → first_of ds ≡ Some s → TimedRun Virtual (code_of ds) s es u → ClockKept ds es 0
virtual_kept ds s u es f h = all_kept ds s f [] s u es (s, f, refl) (clock_begins ds) h
