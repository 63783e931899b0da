-- What is legal where nobody acts, and where a run has come to rest.
use Rattle.std.proofs.Common.{◌≡◌, ◌≢◌, ℕ, suc, ◌<◌, List, [], ◌∷◌, Bool, true, false, ◌⊎◌, Some, refl, sym, ap, ◌∙◌, subst, arith, inl, inr, ⊎_elim, slice_get}
use Rattle.hs_base.specs.declared.tree.script.Script.{Script}
use Rattle.hs_rules.specs.declared.entry.Entry.{Entry}
use Rattle.hs_rules.specs.declared.entry.Entry.TheVariants as entry
use Rattle.rules_expansion.specs.trees.Trees.{T}
use Rattle.rules_expansion.specs.trees.Programs.{Fn, script_of}
use Rattle.rules_expansion.specs.Core.{Core}
use Rattle.rules_meaning.specs.Values.{Env}
use Rattle.rules_meaning.specs.CoreMeaning.{code_of}
use Rattle.rules_sorts.specs.Sorts.{Sort}
use Rattle.rules_typing.specs.TypingScripts.{Accepted}
use Rattle.rules_waiting.specs.Waiting.{Flying, is_blocked, flight_of, flying_to, sleepers_of, sorted_sleepers, earliest}
use Rattle.hs_rules.specs.Terms as named
use Rattle.hs_rules.specs.Terms.{Operation, Ret, Throw, Do, Performs, mask_at}
use Rattle.hs_rules.specs.State.{Thread, State}
use Rattle.hs_rules.specs.Entries as entries
use Rattle.hs_rules.specs.Entries.{is_unmasked, stranded, IsLegal}
use Rattle.hs_laws.specs.cases.Cases as row
use Rattle.hs_laws.specs.cases.Cases.{Unfinished}
use Rattle.hs_laws.proofs.cases_lemmas.Entering.{case_of, open_so, interruptible}
use Rattle.hs_rules.specs.Runs.{IsRun}
use Rattle.hs_rules.specs.Endings.{IsQuiet, IsDeadlock, AllWait}
use Rattle.hs_laws.specs.Standing.{IsResult, NoneWorks}
use Rattle.hs_laws.specs.ClockLaw.{first_due}
use Rattle.hs_laws.proofs.Lists.{StandsIn}
use Rattle.hs_laws.proofs.Expanded.{standing_of}
use Rattle.hs_progress.specs.TypedStates.{has}
use Rattle.hs_progress.specs.GoingOn.{own_entry}
use Rattle.hs_progress.proofs.Entries.{runs_go_on}
use Rattle.hs_progress.proofs.Quiet.{quiet_exactly, stranded_exactly}
use Rattle.slot_laws.specs.SlotRules.{SlotPart}
use Rattle.slot_laws.specs.Standing.{PartStands, ret_stands, throw_stands, do_stands, op_stands}
use Rattle.slot_states.specs.SlotStates.{SlotThread, SlotState, Represents, MainGoes}
use Rattle.slot_states.specs.Resting.{IsDoing, WaitsOpen, AllRest, Goes, NobodyActs, IsLeft}
use Rattle.slot_states.proofs.Reading.{operation_is, named_of, slotted_of, blocked_at, main_runs}
use Rattle.slot_states.proofs.Asleep.{none_is_due}
use Rattle.slot_states.proofs.AtRest.{unheard_so, asleep_so, none_works, nobody_sleeps}
use Rattle.slot_states.proofs.StrandedAlike.{waits_slotted, stands_open}

-- ---- parts
-- a part that stands for an operation stands for no value and for no exception
pub no_result : (cells : ℕ → T → Type 0) (ds : List Fn) {p : SlotPart} {q : named.Part} {op : Operation} {k : Sort} → PartStands cells ds p q k → PartStands cells ds p (Performs op) k → IsResult q → ⊥
no_result cells ds (ret_stands h) g r = let z = (operation_is cells ds g).1 in cc z
no_result cells ds throw_stands g r = let z = (operation_is cells ds g).1 in cc z
no_result cells ds (do_stands h) g r = r
no_result cells ds (op_stands h) g r = r

-- ---- a thread that is to do an action
doing_named : (cells : ℕ → T → Type 0) (ds : List Fn) {p : SlotPart} {q : named.Part} {k : Sort} → PartStands cells ds p q k → IsDoing p → (a : Core) × (env : Env) × (q ≡ Do a env)
doing_named cells ds (do_stands {a} {env} h) d = (a, env, refl)
doing_named cells ds _ d = absurd d

-- its Local of one step is legal
pub local_legal : (script : Script) → Accepted script → (es : List Entry) (s : State) → IsRun (script_of script) es s → (x : SlotState) → Represents (script_of script) x s → MainGoes x → (t : ℕ) → Goes x t → IsLegal (code_of (script_of script)) s (entry.Local t 1)
local_legal script accepted es s run x r main t g =
    let ds : List Fn = script_of script in
    let n = named_of ds x s r t g.thread g.is in
    let d = doing_named (has r.stacks.store) ds n.stands.0 g.does in
    let l = runs_go_on script accepted es s run (main_runs ds x s r main) t n.thread (record { there = n.is; unfinished = sym n.finished ∙ g.unfinished; awake = sym n.blocked ∙ g.free }) in
    subst (λ p. IsLegal (code_of ds) s (own_entry t p n.thread.term.frames)) d.2 l

-- ---- sleepers
pub none_asleep : (ds : List Fn) (x : SlotState) (s : State) → Represents ds x s → sleepers_of s.blocked ≡ [] → x.sleepers ≡ []
none_asleep ds x s r e = r.agrees.sleepers ∙ ap sorted_sleepers e

pub same_due : (ds : List Fn) (x : SlotState) (s : State) → Represents ds x s → first_due s ≡ earliest x.sleepers
same_due ds x s r = ap earliest (sym r.agrees.sleepers)

pub no_deadlock : (ds : List Fn) (x : SlotState) (s : State) → Represents ds x s → x.sleepers ≢ [] → IsDeadlock (code_of ds) s → ⊥
no_deadlock ds x s r some d = some (none_asleep ds x s r d.1)

-- ---- what is legal where nobody acts
module _ (script : Script) (accepted : Accepted script) (es : List Entry) (s : State) (run : IsRun (script_of script) es s) (x : SlotState) (r : Represents (script_of script) x s) (main : MainGoes x) (quiet : NobodyActs x) where
  abbrev ds : List Fn
  ds = script_of script

  -- a thread of the rules that goes is to do an action
  acts : (t : ℕ) (th : Thread) → slice_get s.threads t ≡ Some th → th.finished ≡ false → is_blocked t s.blocked ≡ false → Goes x t × ((a : Core) × (env : Env) × (th.term.part ≡ Do a env))
  acts t th is f b =
      let h = slotted_of ds x s r t th is in
      let does : IsDoing h.0.term.part = quiet.own t h.0 h.1 (h.2 ∙ f) (h.3 ∙ b) in
      (record { thread = h.0; is = h.1; unfinished = h.2 ∙ f; free = h.3 ∙ b; does = does }, doing_named (has r.stacks.store) ds h.4.0 does)

  -- a thread whose part is a value or an exception is blocked no more, so it would act
  no_finish : (t : ℕ) (th : Thread) → slice_get s.threads t ≡ Some th → th.finished ≡ false → IsResult th.term.part → (b : Bool) → is_blocked t s.blocked ≡ b → ⊥
  no_finish t th is f k false b = let a = acts t th is f b in subst IsResult a.1.2 k
  no_finish t th is f k true b =
      let h = slotted_of ds x s r t th is in
      no_result (has r.stacks.store) ds h.4.0 (blocked_at ds x s r (standing_of ds es s run) t h.0 h.1 (h.3 ∙ b)).part k

  -- who goes isn't blocked
  none_goes : NoneWorks s → (t : ℕ) → Goes x t → ⊥
  none_goes w t g =
      let n = named_of ds x s r t g.thread g.is in
      let z : true ≡ false = sym (w.blocked t n.thread n.is (sym n.finished ∙ g.unfinished)) ∙ (sym n.blocked ∙ g.free) in
      cc z

  -- who receives hears nothing, and who ends would act
  none_heard : (t : ℕ) (th : Thread) (f : Flying) (fs : List Flying) → Unfinished t th s → entries.is_receptive t th.term s ≡ true → flying_to t (flight_of s.blocked) ≡ f ∷ fs → ⊥
  none_heard t th f fs h c e = let z : f ∷ fs ≡ [] = sym e ∙ unheard_so ds x s r quiet.unheard t th h.0 h.1 c in cc z

  none_ends : {q : named.Part} (t : ℕ) (th : Thread) → Unfinished t th s → th.term.part ≡ q → IsResult q → ⊥
  none_ends t th h e k = no_finish t th h.0 h.1 (subst IsResult (sym e) k) (is_blocked t s.blocked) refl

  left_by : {e : Entry} {u : State} → row.Enters (code_of ds) s e u → IsLegal (code_of ds) s e → IsLeft x e
  left_by (row.local {t} {th} m h b l) g = (acts t th h.0 h.1 b).0
  left_by (row.operation {t} {th} {p} m h b q c) g = let a = acts t th h.0 h.1 b in let z : Do a.1.0 a.1.1 ≡ Performs p = sym a.1.2 ∙ q in cc z
  left_by (row.receives_while_it_runs {t} {th} {f} {fs} m h n b k e) g = none_heard t th f fs h (open_so (code_of ds) t th s false false n b (ap is_unmasked k)) e
  left_by (row.receives_while_it_waits {t} {th} {f} {fs} m h n b k e) g = none_heard t th f fs h (open_so (code_of ds) t th s true true n b (interruptible (mask_at th.term.frames) k)) e
  left_by (row.wakes {t} {due} m h le) g = let later : s.clock < due = none_is_due s.clock s.blocked (asleep_so ds x s r quiet.asleep) t due h in omega (arith, le, later)
  left_by (row.finishes_by_a_value {t} {th} m h f q) g = none_ends t th h q tt
  left_by (row.main_finishes_by_an_exception {th} h f q) g = none_ends 0 th h q tt
  left_by (row.finishes_silently {t} {th} m h f q i) g = none_ends (suc t) th h q tt
  left_by (row.finishes_with_a_line {t} {th} m h f q i) g = none_ends (suc t) th h q tt
  left_by (row.ticks m h) g = tt
  left_by (row.strands m a w) g = let k = (stranded_exactly script accepted es s run).0 g in (none_goes k.waits, none_asleep ds x s r k.awake)

  pub is_left : (e : Entry) → IsLegal (code_of ds) s e → IsLeft x e
  is_left e l = left_by (case_of (code_of ds) s e l.0 l.1.0) l

-- ---- rest
pub all_rest : (x : SlotState) → NobodyActs x → ((t : ℕ) → Goes x t → ⊥) → AllRest x
all_rest x a none = record { blocked = λ t h is f. by t h is f h.blocked refl; unheard = a.unheard; asleep = a.asleep }
  where
    by : (t : ℕ) (h : SlotThread) → slice_get x.threads t ≡ Some h → h.finished ≡ false → (b : Bool) → h.blocked ≡ b → h.blocked ≡ true
    by t h is f true e = e
    by t h is f false e = absurd (none t (record { thread = h; is = is; unfinished = f; free = e; does = a.own t h is f e }))

-- where nobody waits open, nobody is to be stranded
pub none_stranded : (ds : List Fn) (es : List Entry) (s : State) → IsRun ds es s → (x : SlotState) → Represents ds x s → ((t : ℕ) → WaitsOpen x t → ⊥) → stranded s ≡ []
none_stranded ds es s run x r none = by (stranded s) refl
  where
    by : (ts : List ℕ) → stranded s ≡ ts → stranded s ≡ []
    by [] e = e
    by (t ∷ ts) e = absurd (none t (waits_slotted ds x s r (standing_of ds es s run) t (stands_open s t (subst (StandsIn t) (sym e) (inl refl)))))

pub all_wait : (ds : List Fn) (es : List Entry) (s : State) → IsRun ds es s → (x : SlotState) → Represents ds x s → AllRest x → (x.sleepers ≢ []) ⊎ ((t : ℕ) → WaitsOpen x t → ⊥) → AllWait s
all_wait ds es s run x r rest either =
    let w = none_works ds x s r rest in
    record {
      blocked = w.blocked;
      unheard = w.unheard;
      asleep = w.asleep;
      unstranded = λ e. ⊎_elim (λ some. absurd (some (none_asleep ds x s r e))) (λ none. none_stranded ds es s run x r none) either;
    }

module _ (script : Script) (accepted : Accepted script) (es : List Entry) (s : State) (run : IsRun (script_of script) es s) (x : SlotState) (r : Represents (script_of script) x s) (main : MainGoes x) (rest : AllRest x) where
  pub rest_quiet : (x.sleepers ≢ []) ⊎ ((t : ℕ) → WaitsOpen x t → ⊥) → IsQuiet (code_of (script_of script)) s
  rest_quiet either = (quiet_exactly script accepted es s run (main_runs (script_of script) x s r main)).1 (all_wait (script_of script) es s run x r rest either)

  pub rest_deadlock : x.sleepers ≡ [] → ((t : ℕ) → WaitsOpen x t → ⊥) → IsDeadlock (code_of (script_of script)) s
  rest_deadlock asleep none = (rest_quiet (inr none), nobody_sleeps (script_of script) x s r asleep)
