-- Runs of a timing on the way of a search.
use Rattle.std.proofs.Common.{◌≡◌, ◌≤◌, ◌<◌, ◌+◌, ℕ, ⊎_elim, nat_le, List, [], ◌∷◌, ◌++◌, length, true, false, cond, Option, Some, None, slice_get, refl, sym, ap, ◌∙◌, subst, arith, append-nil}
use Rattle.std.proofs.lemmas.Bool.{cases_lt, le-leb}
use Rattle.hs_base.specs.declared.clock_choice.ClockChoice.{ClockChoice}
use Rattle.hs_base.specs.declared.clock_choice.ClockChoice.TheVariants.{Real, Virtual}
use Rattle.hs_base.specs.declared.limits.Limits.{Limits}
use Rattle.hs_base.specs.declared.tree.script.Script.{Script}
use Rattle.hs_rules.specs.declared.entry.Entry.{Entry}
use Rattle.hs_rules.specs.declared.entry.Entry.TheVariants as entry
use Rattle.hs_rules.specs.declared.entry.LimitKind.{LimitKind}
use Rattle.hs_rules.specs.declared.entry.LimitKind.TheVariants as limit
use Rattle.rules_expansion.specs.trees.Programs.{Fn, script_of}
use Rattle.rules_meaning.specs.CoreMeaning.{code_of}
use Rattle.rules_typing.specs.TypingScripts.{Accepted}
use Rattle.rules_code.specs.CodeTrees.{SlottedFunction, code_trees}
use Rattle.hs_rules.specs.State.{State}
use Rattle.hs_rules.specs.Endings.{IsTick, IsQuiet, IsWithin, allowed}
use Rattle.hs_rules.specs.Histories.{cost_of, steps_of}
use Rattle.hs_rules.specs.Runs.{first_of, IsRun}
use Rattle.hs_rules.proofs.Histories.{steps_of_last}
use Rattle.hs_laws.specs.HistoryEndings.{StaysWithin}
use Rattle.hs_laws.proofs.RunParts.{is_after, run_more}
use Rattle.hs_laws.proofs.HowItEnds.{within_more}
use Rattle.outcome_laws.specs.Timings.{MayTick, TickFits, TimedRun}
use Rattle.outcome_laws.proofs.Timed.{timed_join, run_of_timed}
use Rattle.slot_states.specs.SlotStates.{SlotThread, SlotState, moving, ticks, Represents}
use Rattle.slot_states.specs.Printing.{output_by, errors_by}
use Rattle.slot_states.specs.Resting.{used}
use Rattle.slot_states.proofs.Following.{changed_count}
use Rattle.slot_states.proofs.AtRest.{same_used}
use Rattle.slot_states.proofs.Settled.{same_due}
use Rattle.slot_states.proofs.Printed.{next_adds}
use Rattle.exn_flight.specs.Asleep.{due_of}
use Rattle.slot_states.specs.entering.Entering.{next, on_thread}
use Rattle.search_laws.specs.time.WithoutTime.{untimed, ticked_to, due_first}
use Rattle.search_laws.specs.rests.Rests.{EagerMove}
use Rattle.search_laws.specs.Shown.{forget, FitsIn}
use Rattle.search_laws.specs.Going.{EagerEntries, IsStill, MayTake, steps_by, Leaves}
use Rattle.search_laws.proofs.Cited.{entered, legal, reads, same_output, same_errors, back, ticked, move_enters}

-- ---- limits

-- time is no part of what limits ask
pub used_untimed : (kind : LimitKind) (x : SlotState) → used kind (untimed x) ≡ used kind x
used_untimed limit.Threads x = refl
used_untimed _ x = refl

pub used_forgotten : (clock : ClockChoice) (kind : LimitKind) (x : SlotState) → used kind (forget clock x) ≡ used kind x
used_forgotten Real kind x = used_untimed kind x
used_forgotten Virtual kind x = refl

pub used_ticked : (kind : LimitKind) (at : ℕ) (x : SlotState) → used kind (ticks at x) ≡ used kind x
used_ticked limit.Threads at x = refl
used_ticked _ at x = refl

-- states that are the same but for time use the same
fits_alike : (clock : ClockChoice) (limits : Limits) (x y : SlotState) → forget clock x ≡ forget clock y → FitsIn limits x → FitsIn limits y
fits_alike clock limits x y same fits kind = subst (λ n. n ≤ allowed kind limits) (sym (used_forgotten clock kind x) ∙ (ap (used kind) same ∙ used_forgotten clock kind y)) (fits kind)

pub within_by : (script : Script) (limits : Limits) (x : SlotState) (s : State) → Represents (script_of script) x s → FitsIn limits x → IsWithin limits s
within_by script limits x s r fits kind over = let e = same_used (script_of script) x s r kind in let f = fits kind in omega arith

-- ---- where a search is, exactly

-- a run of the timing of so many steps leaves a state for which this one with slots stands, and these outputs
pub record At (clock : ClockChoice) (ds : List Fn) (limits : Limits) (n : ℕ) (x : SlotState) (output errors : List ℕ) : Type 0 where
  pub begin : State
  pub begins : first_of ds ≡ Some begin
  pub entries : List Entry
  pub state : State
  pub run : TimedRun clock (code_of ds) begin entries state
  pub steps_are : steps_of entries ≡ n
  pub within : StaysWithin limits ds entries
  pub represents : Represents ds x state
  pub output_is : state.output ≡ output
  pub errors_is : state.errors ≡ errors

pub is_run : (clock : ClockChoice) (ds : List Fn) (es : List Entry) (s u : State) → first_of ds ≡ Some s → TimedRun clock (code_of ds) s es u → IsRun ds es u
is_run clock ds es s u b r = (s, b, run_of_timed (code_of ds) (MayTick clock (code_of ds)) es s u r)

-- ---- entries that can be entered

-- an entry that isn't a Tick stands where it may
fits_untimed : (T : State → ℕ → Type 0) (s : State) (e : Entry) → ¬ IsTick e → TickFits T s e
fits_untimed T s (entry.Tick at) h = absurd (h tt)
fits_untimed T s _ h = tt

-- a thread that is there goes on with one function where it does with another
on_other : (o : Option SlotThread) (k l : SlotThread → Option SlotState) (y z : SlotState) → on_thread o k ≡ Some y → ((th : SlotThread) → l th ≡ Some z) → on_thread o l ≡ Some z
on_other None k l y z h e = absurd (cc h)
on_other (Some th) k l y z h e =
    elim th.finished as (λ b. cond b None (k th) ≡ Some y → cond b None (l th) ≡ Some z) [ true ↦ λ q. absurd (cc q) | false ↦ λ q. e th ] h

-- where an entry has a next state, a Tick to now has the same state
tick_now : (funs : List SlottedFunction) (x y : SlotState) (e : Entry) → next funs x e ≡ Some y → next funs x (entry.Tick x.clock) ≡ Some x
tick_now funs x y e h = on_other (slice_get x.threads 0) _ _ y x h (λ th. ap (λ b. cond b (Some (ticks x.clock x)) None) (le-leb x.clock x.clock (omega arith)))

-- the time until which the clock goes for an entry is no part of what limits ask
used_until : (kind : LimitKind) (o : Option ℕ) (x : SlotState) → used kind (ticked_to o x) ≡ used kind x
used_until kind None x = refl
used_until kind (Some due) x = elim (nat_le due x.clock) as (λ b. used kind (cond b x (ticks due x)) ≡ used kind x) [ true ↦ refl | false ↦ used_ticked kind due x ]

-- an eager local rule changes no count but that of frames
pub used_moved : (limits : Limits) (funs : List SlottedFunction) (x m : SlotState) → EagerMove funs x m → used limit.Frames m ≤ limits.frames → FitsIn limits x → FitsIn limits m
used_moved limits funs x m move few fits limit.Threads =
    let e : length m.threads ≡ length x.threads = ap (λ (z : SlotState). length z.threads) move.moved ∙ changed_count x.threads move.number (moving move.term) in
    subst (λ n. n ≤ limits.threads) (sym e) (fits limit.Threads)
used_moved limits funs x m move few fits limit.Cells = subst (λ (z : SlotState). length z.cells ≤ limits.cells) (sym move.moved) (fits limit.Cells)
used_moved limits funs x m move few fits limit.Frames = few
used_moved limits funs x m move few fits limit.Output = subst (λ (z : SlotState). z.printed ≤ limits.output) (sym move.moved) (fits limit.Output)

-- a Local of one step, or another entry, is one step
one_step : (clock : ClockChoice) (funs : List SlottedFunction) (x : SlotState) (e : Entry) → MayTake clock funs x e → cost_of e ≡ 1
one_step clock funs x (entry.Local t k) m = m
one_step clock funs x _ m = refl

module _ (clock : ClockChoice) (script : Script) (accepted : Accepted script) (limits : Limits) where
  abbrev ds : List Fn
  ds = script_of script

  abbrev funs : List SlottedFunction
  funs = code_trees ds

  abbrev T : State → ℕ → Type 0
  T = MayTick clock (code_of ds)

  run_of : (n : ℕ) (x : SlotState) (o r : List ℕ) → (a : At clock ds limits n x o r) → IsRun ds a.entries a.state
  run_of n x o r a = is_run clock ds a.entries a.begin a.state a.begins a.run

  -- where a search is, no limit is exceeded
  pub at_fits : (n : ℕ) (x : SlotState) (o r : List ℕ) → At clock ds limits n x o r → FitsIn limits x
  at_fits n x o r a kind =
      let w = a.within a.entries [] a.state (sym (append-nil a.entries)) (is_after ds a.entries a.state (run_of n x o r a)) kind in
      let e = same_used ds x a.state a.represents kind in
      ⊎_elim (λ h. absurd (w (subst (λ k. allowed kind limits < k) (sym e) h))) (λ h. h) (cases_lt (allowed kind limits) (used kind x))

  -- one more entry
  one_on : (n : ℕ) (x y : SlotState) (o r : List ℕ) (e : Entry) → next funs x e ≡ Some y → FitsIn limits y → ((a : At clock ds limits n x o r) → TickFits T a.state e) →
      At clock ds limits n x o r → At clock ds limits (n + cost_of e) y (o ++ output_by x e) (r ++ errors_by x e)
  one_on n x y o r e is fits ticks a =
      let run = run_of n x o r a in
      let k = entered script accepted x y e is a.entries a.state run a.represents in
      let adds = next_adds ds x a.state a.represents (code_of ds) k.0 e k.1.0 in
      let more = run_more ds a.entries e a.state k.0 run k.1 in
      record {
        begin = a.begin;
        begins = a.begins;
        entries = a.entries ++ e ∷ [];
        state = k.0;
        run = timed_join (code_of ds) T a.entries (e ∷ []) a.begin a.state k.0 a.run (k.0, k.1, ticks a, refl);
        steps_are = steps_of_last a.entries e ∙ ap (λ m. m + cost_of e) a.steps_are;
        within = within_more limits ds a.entries e k.0 a.within (is_after ds (a.entries ++ e ∷ []) k.0 more) (within_by script limits y k.0 k.2 fits);
        represents = k.2;
        output_is = adds.0 ∙ ap (λ z. z ++ output_by x e) a.output_is;
        errors_is = adds.1 ∙ ap (λ z. z ++ errors_by x e) a.errors_is;
      }

  -- an entry that prints nothing
  pub at_same : (n m : ℕ) (x : SlotState) (o p r q : List ℕ) → n ≡ m → o ≡ p → r ≡ q → At clock ds limits n x o r → At clock ds limits m x p q
  at_same n m x o p r q e f g a = subst (λ k. At clock ds limits k x p q) e (subst (λ z. At clock ds limits n x z q) f (subst (λ z. At clock ds limits n x o z) g a))

  -- eager local rules
  pub rest_on : (ls : List Entry) (n : ℕ) (x y : SlotState) (o r : List ℕ) → EagerEntries funs limits.frames ls x y → At clock ds limits n x o r → At clock ds limits (n + length ls) y o r
  rest_on [] n x y o r h a = subst (λ z. At clock ds limits (n + 0) z o r) h (at_same n (n + 0) x o o r r (omega arith) refl refl a)
  rest_on (e ∷ es) n x y o r (m, move, is, few, h) a =
      let fits = used_moved limits funs x m move few (at_fits n x o r a) in
      let b = one_on n x m o r (entry.Local move.number 1) (move_enters funs x m move) fits (λ z. tt) a in
      let c = at_same (n + 1) (n + 1) m (o ++ []) o (r ++ []) r refl (append-nil o) (append-nil r) b in
      at_same ((n + 1) + length es) (n + length (e ∷ es)) y o o r r (omega arith) refl refl (rest_on es (n + 1) m y o r h c)

  -- a Tick in real timing
  tick_on : (real : clock ≡ Real) (n at : ℕ) (x y : SlotState) (o r : List ℕ) → next funs x (entry.Tick at) ≡ Some y → FitsIn limits y → At clock ds limits n x o r → At clock ds limits (n + 1) y o r
  tick_on real n at x y o r is fits a =
      at_same (n + 1) (n + 1) y (o ++ []) o (r ++ []) r refl (append-nil o) (append-nil r)
      (one_on n x y o r (entry.Tick at) is fits (λ z. subst (λ c. MayTick c (code_of ds) z.state at) (sym real) tt) a)

  -- ---- an entry that is taken

  -- in virtual timing a Tick that may be taken may stand
  pub still_quiet : (es : List Entry) (s : State) → IsRun ds es s → (x : SlotState) → Represents ds x s → IsStill funs x → IsQuiet (code_of ds) s
  still_quiet es s run x r still e plain (u, l) =
      let k = legal script accepted es s u run x r e l in
      let z : ◌≡◌ {A = Option SlotState} None (Some k.0) = sym (still e plain) ∙ k.1 in cc z

  pub taken_fits : (c : ClockChoice) (es : List Entry) (s : State) → IsRun ds es s → (x : SlotState) → Represents ds x s → (e : Entry) → MayTake c funs (forget c x) e → TickFits (MayTick c (code_of ds)) s e
  taken_fits Real es s run x r (entry.Tick at) m = tt
  taken_fits Virtual es s run x r (entry.Tick at) m = (still_quiet es s run x r m.1, same_due ds x s r ∙ m.2)
  taken_fits c es s run x r _ m = tt

-- where an entry leads exactly, and that the search knows
pub record Led (clock : ClockChoice) (ds : List Fn) (limits : Limits) (n : ℕ) (z : SlotState) (o r : List ℕ) : Type 0 where
  pub exact : SlotState
  pub forgotten : forget clock exact ≡ forget clock z
  pub at : At clock ds limits n exact o r

-- in real timing no Tick is taken
pub no_tick : (funs : List SlottedFunction) (x : SlotState) (e : Entry) → MayTake Real funs x e → ¬ IsTick e
no_tick funs x (entry.Tick at) m t = let q : Real ≡ Virtual = m.0 in cc q
no_tick funs x _ m h = h

module _ (script : Script) (accepted : Accepted script) (limits : Limits) where
  abbrev sds : List Fn
  sds = script_of script

  abbrev sfuns : List SlottedFunction
  sfuns = code_trees sds

  -- in virtual timing
  virtual_led : (n : ℕ) (x z : SlotState) (o r : List ℕ) (e : Entry) → Leaves Virtual sfuns x e z → FitsIn limits z → At Virtual sds limits n x o r → Led Virtual sds limits (n + steps_by Virtual e) z (o ++ output_by x e) (r ++ errors_by x e)
  virtual_led n x z o r e l fits a =
      let b = one_on Virtual script accepted limits n x z o r e l.leaves fits (λ q. taken_fits Virtual script accepted limits Virtual q.entries q.state (run_of Virtual script accepted limits n x o r q) x q.represents e l.may) a in
      record { exact = z; forgotten = refl; at = subst (λ k. At Virtual sds limits (n + k) z (o ++ output_by x e) (r ++ errors_by x e)) (one_step Virtual sfuns x e l.may) b }

  -- in real timing an entry that is no Wake
  awake_led : (n : ℕ) (x z : SlotState) (o r : List ℕ) (e : Entry) → due_first x e ≡ x → cost_of e ≡ 1 → ¬ IsTick e → Leaves Real sfuns (untimed x) e z → FitsIn limits z → At Real sds limits n x o r →
      Led Real sds limits (n + 1) z (o ++ output_by (untimed x) e) (r ++ errors_by (untimed x) e)
  awake_led n x z o r e same cost plain l fits a =
      let k = back sfuns x z e l.leaves plain (λ q. l.timeless ((reads x e).1 q)) in
      let is : next sfuns x e ≡ Some k.0 = subst (λ y. next sfuns y e ≡ Some k.0) same k.1 in
      let b = one_on Real script accepted limits n x k.0 o r e is (fits_alike Real limits z k.0 (sym k.2) fits) (λ q. fits_untimed (MayTick Real (code_of sds)) q.state e plain) a in
      record {
        exact = k.0;
        forgotten = k.2;
        at = at_same Real script accepted limits (n + cost_of e) (n + 1) k.0 (o ++ output_by x e) (o ++ output_by (untimed x) e) (r ++ errors_by x e) (r ++ errors_by (untimed x) e)
            (ap (λ m. n + m) cost) (ap (λ q. o ++ q) (sym (same_output x e))) (ap (λ q. r ++ q) (sym (same_errors x e))) b;
      }

  -- a Tick that makes a sleeper due, or one to now
  waits : (x z : SlotState) (t : ℕ) → Leaves Real sfuns (untimed x) (entry.Wake t) z → (y : SlotState) → next sfuns (due_first x (entry.Wake t)) (entry.Wake t) ≡ Some y →
      (at : ℕ) × (next sfuns x (entry.Tick at) ≡ Some (due_first x (entry.Wake t)))
  waits x z t l y is =
      ⊎_elim
      (λ same. (x.clock, subst (λ q. next sfuns x (entry.Tick x.clock) ≡ Some q) (sym same) (tick_now sfuns x y (entry.Wake t) (subst (λ q. next sfuns q (entry.Wake t) ≡ Some y) same is))))
      (λ d. (d.1, d.4))
      (ticked sfuns x z (entry.Wake t) l.leaves)

  -- in real timing a Wake
  wake_led : (n : ℕ) (x z : SlotState) (o r : List ℕ) (t : ℕ) → Leaves Real sfuns (untimed x) (entry.Wake t) z → FitsIn limits z → At Real sds limits n x o r →
      Led Real sds limits (n + 2) z (o ++ []) (r ++ [])
  wake_led n x z o r t l fits a =
      let k = back sfuns x z (entry.Wake t) l.leaves (λ h. h) (λ h. h) in
      let w = waits x z t l k.0 k.1 in
      let due : SlotState = due_first x (entry.Wake t) in
      let first = tick_on Real script accepted limits refl n w.0 x due o r w.1 (λ kind. subst (λ m. m ≤ allowed kind limits) (sym (used_until kind (due_of t x.sleepers) x)) (at_fits Real script accepted limits n x o r a kind)) a in
      let b = one_on Real script accepted limits (n + 1) due k.0 o r (entry.Wake t) k.1 (fits_alike Real limits z k.0 (sym k.2) fits) (λ q. tt) first in
      record { exact = k.0; forgotten = k.2; at = at_same Real script accepted limits ((n + 1) + 1) (n + 2) k.0 (o ++ []) (o ++ []) (r ++ []) (r ++ []) (omega arith) refl refl b }

  real_led : (n : ℕ) (x z : SlotState) (o r : List ℕ) (e : Entry) → Leaves Real sfuns (untimed x) e z → FitsIn limits z → At Real sds limits n x o r →
      Led Real sds limits (n + steps_by Real e) z (o ++ output_by (untimed x) e) (r ++ errors_by (untimed x) e)
  real_led n x z o r (entry.Wake t) l fits a = wake_led n x z o r t l fits a
  real_led n x z o r (entry.Tick at) l fits a = absurd (no_tick sfuns (untimed x) (entry.Tick at) l.may tt)
  real_led n x z o r (entry.Local t k) l fits a = awake_led n x z o r (entry.Local t k) refl l.may (λ h. h) l fits a
  real_led n x z o r e l fits a = awake_led n x z o r e refl refl (λ h. h) l fits a

  pub led : (clock : ClockChoice) (n : ℕ) (x z : SlotState) (o r : List ℕ) (e : Entry) → Leaves clock sfuns (forget clock x) e z → FitsIn limits z → At clock sds limits n x o r →
      Led clock sds limits (n + steps_by clock e) z (o ++ output_by (forget clock x) e) (r ++ errors_by (forget clock x) e)
  led Real n x z o r e l fits a = real_led n x z o r e l fits a
  led Virtual n x z o r e l fits a = virtual_led n x z o r e l fits a
