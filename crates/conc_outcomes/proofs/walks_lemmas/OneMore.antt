-- A run with one entry more leads on, where the entry may stand.
use Rattle.std.proofs.Common.{◌≡◌, ◌<◌, ℕ, Bool, false, List, [], ◌∷◌, ◌++◌, Some, refl, sym, ap, ◌∙◌, subst, arith, inl, ⊎_elim}
use Rattle.hs_base.specs.declared.clock_choice.ClockChoice.{ClockChoice}
use Rattle.hs_base.specs.declared.clock_choice.ClockChoice.TheVariants.{Real, Virtual}
use Rattle.hs_base.specs.declared.limits.Limits.{Limits}
use Rattle.hs_base.specs.declared.tree.script.Script.{Script}
use Rattle.hs_rules.specs.declared.entry.Entry.{Entry}
use Rattle.hs_rules.specs.declared.entry.Entry.TheVariants as entry
use Rattle.rules_expansion.specs.trees.Programs.{Fn, script_of}
use Rattle.rules_meaning.specs.CoreMeaning.{Code, code_of}
use Rattle.rules_typing.specs.TypingScripts.{Accepted}
use Rattle.rules_code.specs.CodeTrees.{SlottedFunction, code_trees}
use Rattle.rules_waiting.specs.Waiting.{sleepers_of}
use Rattle.hs_rules.specs.State.{State}
use Rattle.hs_rules.specs.Entries.{Leads}
use Rattle.hs_rules.specs.Endings.{IsWithin}
use Rattle.hs_rules.specs.Runs.{after, IsRun}
use Rattle.hs_laws.specs.ClockLaw.{EndsInTick, IsFrom, TickStands, IsPunctual, ClockKept}
use Rattle.hs_laws.specs.ClockLaw as law
use Rattle.hs_laws.proofs.Ticking.{last_or, clock_works, clock_ticks}
use Rattle.hs_laws.proofs.RunParts.{is_after, same_after}
use Rattle.outcome_laws.specs.timing.WithoutTime.{ReadsClock}
use Rattle.outcome_laws.specs.Timings.{MayTick, TickFits, RunWithTicks}
use Rattle.outcome_laws.proofs.Clocked.{none_due}
use Rattle.slot_states.specs.SlotStates.{SlotState, Represents}
use Rattle.slot_states.specs.Printing.{output_by, errors_by}
use Rattle.slot_states.proofs.Printed.{next_adds}
use Rattle.slot_states.proofs.Settled.{same_due}
use Rattle.slot_states.specs.entering.Entering.{next}
use Rattle.search_laws.specs.Shown.{Shown, StandsAs, FitsIn}
use Rattle.search_laws.proofs.Cited.{entered}
use Rattle.search_laws.proofs.Walking.{within_by, still_quiet, is_run}
use Rattle.conc_outcomes.specs.walks.Walking.{IsTimedRun, StaysBefore, NeverReads, LeadsTo}
use Rattle.conc_outcomes.specs.walks.Entering.{TickMay, EntryMay}

-- ---- runs and limits

timed_more : (code : Code) (T : State → ℕ → Type 0) (es : List Entry) (e : Entry) (s m u : State) → RunWithTicks code T s es m → Leads code m e u → TickFits T m e → RunWithTicks code T s (es ++ e ∷ []) u
timed_more code T [] e s m u r l f = subst (λ z. RunWithTicks code T z (e ∷ []) u) (sym r) (u, l, f, refl)
timed_more code T (x ∷ xs) e s m u r l f = (r.0, r.1, r.2, timed_more code T xs e r.0 m u r.3 l f)

-- the states before the one that the entry leaves are those before and the last of them
before_more : (limits : Limits) (ds : List Fn) (es : List Entry) (e : Entry) (s : State) → IsRun ds es s → IsWithin limits s → StaysBefore limits ds es → StaysBefore limits ds (es ++ e ∷ [])
before_more limits ds es e s run within before front back x u split a =
    ⊎_elim
    (λ k. subst (IsWithin limits) (same_after ds es s u run (ap (after ds) (sym k.1) ∙ a)) within)
    (λ k. before front k.0 x u k.2 a)
    (last_or es e front x back split)

-- no entry reads the clock where none before did and this one doesn't
pub unread_more : (ds : List Fn) (es : List Entry) (e : Entry) (s : State) → IsRun ds es s → ¬ ReadsClock s e → NeverReads ds es → NeverReads ds (es ++ e ∷ [])
unread_more ds es e s run not before front back x u split a =
    ⊎_elim
    (λ k reads. not (subst (λ z. ReadsClock z e) (sym (same_after ds es s u run (ap (after ds) (sym k.1) ∙ a))) (subst (ReadsClock u) k.2 reads)))
    (λ k. before front k.0 x u k.2 a)
    (last_or es e front x back split)

-- ---- the clock

module _ (script : Script) (accepted : Accepted script) (limits : Limits) (es : List Entry) (s : State) (run : IsRun (script_of script) es s) (x : SlotState) (r : Represents (script_of script) x s) (ticked : Bool)
    (fresh : ticked ≡ false → ¬ EndsInTick es) where
  abbrev ds : List Fn
  ds = script_of script

  abbrev funs : List SlottedFunction
  funs = code_trees ds

  -- a Tick that may stand keeps the law of the clock, and the timing
  tick_right : (clock : ClockChoice) (at : ℕ) → TickMay clock funs x ticked at → TickStands (code_of ds) es s at × IsPunctual (code_of ds) s at × MayTick clock (code_of ds) s at
  tick_right Real at (due, first, from, later, alone) =
      let is : law.first_due s ≡ Some due = same_due ds x s r ∙ first in
      let clock_is = r.agrees.clock in (
        record { wanted = inl (none_due due (sleepers_of s.blocked) is); beside = λ e plain legal. (subst (λ n. n < at) clock_is later, fresh alone) },
        λ quiet. subst (IsFrom at) (sym is) from,
        tt,
      )
  tick_right Virtual at (still, first) =
      let is : law.first_due s ≡ Some at = same_due ds x s r ∙ first in
      let quiet = still_quiet Virtual script accepted limits es s run x r still in (
        record { wanted = inl (none_due at (sleepers_of s.blocked) is); beside = λ e plain legal. absurd (quiet e plain legal) },
        λ q. subst (IsFrom at) (sym is) (omega arith),
        (quiet, is),
      )

  fits_by : (clock : ClockChoice) (e : Entry) → EntryMay clock funs x ticked e → TickFits (MayTick clock (code_of ds)) s e
  fits_by clock (entry.Tick at) may = (tick_right clock at may).2
  fits_by clock (entry.Local t k) may = tt
  fits_by clock (entry.Op t) may = tt
  fits_by clock (entry.Receive t) may = tt
  fits_by clock (entry.Wake t) may = tt
  fits_by clock (entry.Finish t) may = tt
  fits_by clock entry.Stranded may = tt

  kept_more : (clock : ClockChoice) (e : Entry) → EntryMay clock funs x ticked e → ClockKept ds es 0 → ClockKept ds (es ++ e ∷ []) 0
  kept_more clock (entry.Tick at) may k = let t = tick_right clock at may in clock_ticks ds es at 0 s (is_after ds es s run) k t.0 t.1
  kept_more clock (entry.Local t n) may k = clock_works ds es (entry.Local t n) 0 (λ q. q) k
  kept_more clock (entry.Op t) may k = clock_works ds es (entry.Op t) 0 (λ q. q) k
  kept_more clock (entry.Receive t) may k = clock_works ds es (entry.Receive t) 0 (λ q. q) k
  kept_more clock (entry.Wake t) may k = clock_works ds es (entry.Wake t) 0 (λ q. q) k
  kept_more clock (entry.Finish t) may k = clock_works ds es (entry.Finish t) 0 (λ q. q) k
  kept_more clock entry.Stranded may k = clock_works ds es entry.Stranded 0 (λ q. q) k

-- ---- what a run leads to

-- what is stood for exactly
pub exactly : (ds : List Fn) (c : Shown) (s : State) → StandsAs Virtual ds c s → Represents ds c.slots s
exactly ds c s h = subst (λ x. Represents ds x s) h.forgotten h.represents

pub run_of : (clock : ClockChoice) (ds : List Fn) (es : List Entry) (s : State) → IsTimedRun clock ds es s → IsRun ds es s
run_of clock ds es s h = is_run clock ds es h.begin s h.begins h.run

module _ (clock : ClockChoice) (limits : Limits) (script : Script) (accepted : Accepted script) (es : List Entry) (c d : Shown) (e : Entry) (ticked : Bool) (leads : LeadsTo clock limits (script_of script) es c) where
  -- where the state exceeds no limit, to what an entry that may stand leaves of it
  pub one_more : FitsIn limits c.slots → EntryMay clock (code_trees (script_of script)) c.slots ticked e → (ticked ≡ false → ¬ EndsInTick es) → next (code_trees (script_of script)) c.slots e ≡ Some d.slots →
      d.output ≡ c.output ++ output_by c.slots e → d.errors ≡ c.errors ++ errors_by c.slots e → LeadsTo clock limits (script_of script) (es ++ e ∷ []) d
  one_more fits may fresh is output errors =
      let names : List Fn = script_of script in
      let s = leads.state in
      let run = run_of clock names es s leads.run in
      let r = exactly names c s leads.stands in
      let k = entered script accepted c.slots d.slots e is es s run r in
      let adds = next_adds names c.slots s r (code_of names) k.0 e k.1.0 in
      record {
        state = k.0;
        run = record {
          begin = leads.run.begin;
          begins = leads.run.begins;
          run = timed_more (code_of names) (MayTick clock (code_of names)) es e leads.run.begin s k.0 leads.run.run k.1 (fits_by script accepted limits es s run c.slots r ticked fresh clock e may);
        };
        before = before_more limits names es e s run (within_by script limits c.slots s r fits) leads.before;
        kept = kept_more script accepted limits es s run c.slots r ticked fresh clock e may leads.kept;
        stands = record {
          exact = d.slots;
          represents = k.2;
          forgotten = refl;
          output = adds.0 ∙ (ap (λ z. z ++ output_by c.slots e) leads.stands.output ∙ sym output);
          errors = adds.1 ∙ (ap (λ z. z ++ errors_by c.slots e) leads.stands.errors ∙ sym errors);
        };
      }
