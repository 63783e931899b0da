-- Where an entry is legal it leaves a state with slots, which stands for what it leaves.
use Rattle.std.proofs.Common.{◌≡◌, ◌≢◌, ℕ, zero, suc, nat_le, List, [], ◌∷◌, Some, None, refl, sym, ap, ◌∙◌, subst, arith, slice_get, inl, inr}
use Rattle.std.proofs.lemmas.Bool.{le-leb}
use Rattle.std.proofs.lemmas.Option.{same_Some}
use Rattle.hs_base.specs.declared.mask.Mask.TheVariants.{Unmasked}
use Rattle.hs_base.specs.declared.tree.script.Script.{Script}
use Rattle.hs_rules.specs.declared.entry.Entry.{Entry}
use Rattle.hs_rules.specs.declared.entry.Entry.TheVariants as entry
use Rattle.rules_expansion.specs.trees.Programs.{Fn, script_of}
use Rattle.rules_meaning.specs.CoreMeaning.{code_of}
use Rattle.rules_typing.specs.TypingScripts.{Accepted}
use Rattle.rules_code.specs.CodeTrees.{SlottedFunction, code_trees}
use Rattle.rules_waiting.specs.Waiting.{flying_to, first_thrown}
use Rattle.hs_rules.specs.State.{State}
use Rattle.hs_rules.specs.Entries.{Leads, IsLegal}
use Rattle.hs_rules.specs.Runs.{IsRun}
use Rattle.hs_progress.specs.TypedStates.{has}
use Rattle.hs_laws.proofs.Lists.{cond_true, cond_false}
use Rattle.slot_laws.specs.SlotRules.{SlotPart, ret, throw, performs, SlotTerm, mask_from, locals}
use Rattle.slot_states.specs.SlotStates.{SlotState, moves, receives, wakes, ticks, strands, Represents, StandsAt, StandsBare}
use Rattle.slot_states.specs.Resting.{is_receptive}
use Rattle.slot_states.proofs.Reading.{named_of, part_is}
use Rattle.slot_states.proofs.Waits.{target_there}
use Rattle.slot_states.specs.demands.Demands.{Asks}
use Rattle.slot_states.proofs.demands_lemmas.Demanding.{asked}
use Rattle.slot_states.specs.entering.Operating.{operated}
use Rattle.slot_states.specs.entering.Entering.{moved, local_entry, operates, op_entry, received, receive_entry, woken, ended, finish_entry, rest_from, waiting_from, stranded, strand_entry, entered, next}
use Rattle.slot_states.proofs.entering_lemmas.Passing.{thread_leaves}
use Rattle.slot_states.proofs.entering_lemmas.Stranding.{rest_all, some_waiting}
use Rattle.slot_states.proofs.entering_lemmas.Entered.{next_entered}
use Rattle.slot_states.proofs.entering_lemmas.Fitting.{IsThere, operation_there}

some_list : (ts : List ℕ) → ts ≢ [] → (x : SlotState) → IsThere (stranded ts x)
some_list [] n x = absurd (n refl)
some_list (t ∷ ts) n x = (strands (t ∷ ts) x, refl)

module _ (script : Script) (accepted : Accepted script) (es : List Entry) (s : State) (run : IsRun (script_of script) es s) (x : SlotState) (r : Represents (script_of script) x s) where
  abbrev ds : List Fn
  ds = script_of script

  abbrev funs : List SlottedFunction
  funs = code_trees ds

  -- what is asked of an entry lets it leave a state
  local_there : (t k : ℕ) → Asks ds (entry.Local t k) x → IsThere (entered funs x (entry.Local t k))
  local_there t zero (th, is, f, b, more, (st, goes)) = absurd (omega (arith, more))
  local_there t (suc k) (th, is, f, b, more, (st, goes)) = (
    moves t st x,
    thread_leaves (slice_get x.threads t) (λ h. local_entry funs t (suc k) h x) th (Some (moves t st x)) is f
        (cond_false th.blocked None (moved t (locals funs Unmasked (suc k) th.term) x) b ∙ ap (λ o. moved t o x) goes),
  )

  op_there : (t : ℕ) → Asks ds (entry.Op t) x → IsThere (entered funs x (entry.Op t))
  op_there t (p, h) =
      let m = mask_from Unmasked h.thread.term.frames in
      let n = named_of ds x s r t h.thread h.is in
      let y : IsThere (operated t m p x) = operation_there t x (has r.stacks.store) m ds p (part_is ds x s r t h.thread n h.part)
      (λ u e is. target_there script accepted es s run x r t u e (subst (λ o. StandsAt x t (performs o)) is h)) in (
        y.0,
        thread_leaves (slice_get x.threads t) (λ th. op_entry t th x) h.thread (Some y.0) h.is h.unfinished
            (cond_false h.thread.blocked None (operates t h.thread.term.frames h.thread.term.part x) h.free
            ∙ (ap (λ q. operates t h.thread.term.frames q x) h.part ∙ y.1)),
      )

  receive_there : (t : ℕ) → Asks ds (entry.Receive t) x → IsThere (entered funs x (entry.Receive t))
  receive_there t (th, is, f, c, (w, e, hit)) = (
    receives t w e x,
    thread_leaves (slice_get x.threads t) (λ h. receive_entry t h x) th (Some (receives t w e x)) is f
        (cond_true (is_receptive th) (received t (first_thrown (flying_to t x.flight)) x) None c ∙ ap (λ o. received t o x) hit),
  )

  wake_there : (t : ℕ) → Asks ds (entry.Wake t) x → IsThere (entered funs x (entry.Wake t))
  wake_there t (due, is, come) = (wakes t x, ap (λ o. woken t o x) is ∙ cond_true (nat_le due x.clock) (Some (wakes t x)) None (le-leb due x.clock come))

  -- a thread all of whose term is this part, where it ends
  bare_there : (t : ℕ) (p : SlotPart) (y : SlotState) → ended t [] p x ≡ Some y → StandsBare x t p → IsThere (entered funs x (entry.Finish t))
  bare_there t p y e h = (
    y,
    thread_leaves (slice_get x.threads t) (λ th. finish_entry t th x) h.thread (Some y) h.is h.unfinished
        (cond_false h.thread.blocked None (ended t h.thread.term.frames h.thread.term.part x) h.free ∙ (ap (λ (z : SlotTerm). ended t z.frames z.part x) h.term ∙ e)),
  )

  finish_there : (t : ℕ) → Asks ds (entry.Finish t) x → IsThere (entered funs x (entry.Finish t))
  finish_there t (inl (v, h)) = bare_there t (ret v) _ refl h
  finish_there t (inr (e, h)) = bare_there t (throw e) _ refl h

  strand_there : Asks ds entry.Stranded x → IsThere (entered funs x entry.Stranded)
  strand_there (quiet, none, (t, w)) =
      let y = some_list (waiting_from 0 x.threads) (some_waiting x t w) x in
      (y.0, ap (λ ss. strand_entry ss x) none ∙ (cond_true (rest_from x.flight 0 x.threads) (stranded (waiting_from 0 x.threads) x) None (rest_all x quiet) ∙ y.1))

  asked_there : (e : Entry) → Asks ds e x → IsThere (entered funs x e)
  asked_there (entry.Local t k) a = local_there t k a
  asked_there (entry.Op t) a = op_there t a
  asked_there (entry.Receive t) a = receive_there t a
  asked_there (entry.Wake t) a = wake_there t a
  asked_there (entry.Finish t) a = finish_there t a
  asked_there (entry.Tick now) a = (ticks now x, cond_true (nat_le x.clock now) (Some (ticks now x)) None (le-leb x.clock now a))
  asked_there entry.Stranded a = strand_there a

  legal_there : (e : Entry) → IsLegal (code_of ds) s e → IsThere (next funs x e)
  legal_there e l =
      let a = asked script accepted es s run x r e l in
      let y = asked_there e a.1 in
      (y.0, thread_leaves (slice_get x.threads 0) (λ main. entered funs x e) a.0.main (Some y.0) a.0.is a.0.unfinished y.1)

  -- and there is but one state that an entry leaves
  pub legal_next : (u : State) (e : Entry) → Leads (code_of ds) s e u → (y : SlotState) × (next funs x e ≡ Some y) × Represents ds y u
  legal_next u e l =
      let y = legal_there e (u, l) in
      let k = next_entered script accepted x y.0 e y.1 es s run r in
      (y.0, y.1, subst (Represents ds y.0) (same_Some k.0 u (sym k.1.0 ∙ l.0)) k.2)
