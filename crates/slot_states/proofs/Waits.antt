-- Who waits, and for what, as a state with slots says it.
use Rattle.std.proofs.Common.{◌≡◌, ◌≤◌, ℕ, ◌==◌, ℤ, true, false, List, [], ◌∷◌, Option, Some, None, refl, sym, ap, ◌∙◌, subst, slice_get}
use Rattle.hs_base.specs.declared.exn.Exn.{Exn}
use Rattle.hs_base.specs.declared.tree.script.Script.{Script}
use Rattle.hs_rules.specs.declared.entry.Entry.{Entry}
use Rattle.rules_expansion.specs.trees.Programs.{Fn, script_of}
use Rattle.rules_meaning.specs.Values as val
use Rattle.rules_meaning.specs.Values.{V, Int, Exception}
use Rattle.rules_expansion.specs.declared.primitive.Primitive.{Primitive}
use Rattle.rules_expansion.specs.declared.primitive.Primitive.TheVariants.{ThreadDelay, ThrowTo}
use Rattle.rules_typing.specs.TypingScripts.{Accepted}
use Rattle.rules_waiting.specs.Waiting.{Reason, Throwing, Sleeping, Waiting, Sleeper, is_blocked, reason_of, flight_of, flying_to, first_thrown, Flying, Sleeper, has, without, leaves, is_throwing, sleepers_of, first_awake, is_sleeping, line_of}
use Rattle.exn_flight.specs.Asleep.{due_of}
use Rattle.hs_rules.specs.Terms.{Calls, Performs}
use Rattle.hs_rules.specs.State.{Thread, State}
use Rattle.hs_rules.specs.Primitives.{throw_at}
use Rattle.hs_rules.specs.Runs.{IsRun}
use Rattle.hs_laws.specs.Standing.{Once, Standing}
use Rattle.hs_laws.specs.BracketPhases.{Blocks}
use Rattle.hs_laws.proofs.Lists.{cond_cases, cond_false, Found, first_found, once_reason, throws, throw_is_first, throws_means}
use Rattle.hs_laws.proofs.CellSteps.{Away, away_leaves, line_leaves, leaves_absent}
use Rattle.hs_laws.proofs.Stranding.{reason_blocked}
use Rattle.hs_progress.specs.TypedStates as typed
use Rattle.hs_progress.proofs.Entries.{operations_go_on}
use Rattle.slot_laws.specs.SlotRules.{SlotOp, performs, calls}
use Rattle.slot_laws.specs.Standing.{PartStands}
use Rattle.slot_states.specs.SlotStates.{SlotThread, SlotState, SameCell, left_lines, Represents, StandsAt}
use Rattle.slot_states.specs.Resting.{NotThrowing, NotAsleep}
use Rattle.slot_states.proofs.Reading.{BlockedAt, blocked_there, blocked_at, named_of, slotted_of, at_call, call_of, operation_is, line_stays}
use Rattle.slot_states.proofs.Leaving.{Silent, Awake, flight_stays, sleepers_stay}
use Rattle.slot_states.proofs.Lines.{not_throwing, not_asleep, lines_same}
use Rattle.slot_states.proofs.Asleep.{first_due, first_is_due, sleeps_until}

-- ---- what was taken out of a list isn't in it
module _ {A : Type 0} (number : A → ℕ) where
  without_gone : (t : ℕ) (xs : List A) → has number t (without number t xs) ≡ false
  without_gone t [] = refl
  without_gone t (x ∷ xs) =
      cond_cases (λ ys. has number t ys ≡ false) (number x == t) (without number t xs) (x ∷ without number t xs)
      (λ b. without_gone t xs)
      (λ b. cond_false (number x == t) true (has number t (without number t xs)) b ∙ without_gone t xs)

-- ---- who throws first is blocked in its throw
pub first_throws : (t w : ℕ) (e : Exn) (ws : List (Waiting V)) → Once ws → first_thrown (flying_to t (flight_of ws)) ≡ Some (w, e) → reason_of w ws ≡ Some (Throwing t e)
first_throws t w e ws o h =
    let f : Found (λ u r. reason_of u ws ≡ Some r) (throws t) (Some (w, e)) = subst (Found (λ u r. reason_of u ws ≡ Some r) (throws t)) (sym (throw_is_first t ws) ∙ h) (first_found (λ u r. reason_of u ws ≡ Some r) (throws t) ws (once_reason ws o)) in
    f.1 ∙ ap Some (throws_means t f.0 e f.2)

-- ---- for what a blocked thread waits
throw_reason : (u : ℕ) (e : Exn) (r : Reason V) → Blocks r (Calls ThrowTo (val.Thread u ∷ Exception e ∷ [])) → r ≡ Throwing u e
throw_reason u e (Sleeping due) h = let z = h.1 in absurd (cc z)
throw_reason u e _ h = cc h

sleep_reason : (n : ℤ) (r : Reason V) → Blocks r (Calls ThreadDelay (Int n ∷ [])) → (due : ℕ) × (r ≡ Sleeping due)
sleep_reason n (Sleeping due) h = (due, refl)
sleep_reason n _ h = absurd (cc h)

-- ---- the same of a state that is stood for
module _ (ds : List Fn) (x : SlotState) (s : State) (r : Represents ds x s) (t : ℕ) where
  in_no_line : ((m : ℕ) → line_of m (leaves t s.blocked) ≡ line_of m s.blocked) → left_lines t x.cells ≡ x.cells
  in_no_line h = lines_same t x.cells (λ m c e. line_stays m t s c (subst (SameCell m s) e (r.agrees.cells m)) (sym (line_leaves m t s.blocked) ∙ h m))

  silent : flight_of (leaves t s.blocked) ≡ flight_of s.blocked → NotThrowing t x.flight
  silent h = subst (NotThrowing t) (sym r.agrees.flight) (not_throwing t s.blocked h)

  awake : sleepers_of (leaves t s.blocked) ≡ sleepers_of s.blocked → NotAsleep t x.sleepers
  awake h = subst (NotAsleep t) (sym r.agrees.sleepers) (not_asleep t s.blocked h)

  pub free_waits : (h : SlotThread) → slice_get x.threads t ≡ Some h → h.blocked ≡ false
      → (left_lines t x.cells ≡ x.cells) × NotThrowing t x.flight × NotAsleep t x.sleepers × (is_throwing t x.flight ≡ false) × (is_sleeping t x.sleepers ≡ false)
  free_waits h is b =
      let n = named_of ds x s r t h is in
      let free : is_blocked t s.blocked ≡ false = sym n.blocked ∙ b in
      let same : leaves t s.blocked ≡ s.blocked = leaves_absent t s.blocked free in
      let throws_not = silent (ap flight_of same) in
      let sleeps_not = awake (ap sleepers_of same) in (
        in_no_line (λ m. ap (line_of m) same),
        throws_not,
        sleeps_not,
        ap (is_throwing t) (sym throws_not.0) ∙ without_gone (λ (f : Flying). f.thrower) t x.flight,
        ap (is_sleeping t) (sym sleeps_not) ∙ without_gone (λ (z : Sleeper). z.thread) t x.sleepers,
      )

module _ (ds : List Fn) (x : SlotState) (s : State) (r : Represents ds x s) (stands : Standing s) where
  pub thrower_blocked : (t w : ℕ) (e : Exn) → first_thrown (flying_to t x.flight) ≡ Some (w, e) → (h : SlotThread) × (slice_get x.threads w ≡ Some h) × (h.blocked ≡ true)
  thrower_blocked t w e f =
      blocked_there ds x s r stands w (reason_blocked w s.blocked (Throwing t e) (first_throws t w e s.blocked stands.once (ap (λ fs. first_thrown (flying_to t fs)) (sym r.agrees.flight) ∙ f)))

  pub sleeper_blocked : (t : ℕ) → first_awake x.clock x.sleepers ≡ Some t → (h : SlotThread) × (slice_get x.threads t ≡ Some h) × (h.blocked ≡ true)
  sleeper_blocked t f =
      let k = first_due x.clock t s.blocked stands.once (ap (first_awake x.clock) (sym r.agrees.sleepers) ∙ f) in
      blocked_there ds x s r stands t (reason_blocked t s.blocked (Sleeping k.0) k.1)

  -- who sleeps, due or not
  pub sleeper_there : (t due : ℕ) → due_of t x.sleepers ≡ Some due → (h : SlotThread) × (slice_get x.threads t ≡ Some h) × (h.blocked ≡ true)
  sleeper_there t due e =
      blocked_there ds x s r stands t (reason_blocked t s.blocked (Sleeping due) (sleeps_until t due s.blocked stands.once (ap (due_of t) (sym r.agrees.sleepers) ∙ e)))

  -- who wakes first is due
  pub first_has_come : (t : ℕ) → first_awake x.clock x.sleepers ≡ Some t → (due : ℕ) × (due_of t x.sleepers ≡ Some due) × (due ≤ x.clock)
  first_has_come t e =
      let k = first_is_due x.clock t s.blocked stands.once (ap (first_awake x.clock) (sym r.agrees.sleepers) ∙ e) in
      (k.0, ap (due_of t) r.agrees.sleepers ∙ k.1, k.2)

  module _ (t : ℕ) (h : SlotThread) (is : slice_get x.threads t ≡ Some h) (b : h.blocked ≡ true) where
    abbrev at : BlockedAt ds x s r t h
    at = blocked_at ds x s r stands t h is b

    pub blocked_performs : (h.finished ≡ false) × ((op : SlotOp) × (h.term.part ≡ performs op))
    blocked_performs = (at.unfinished, operation_is (typed.has r.stacks.store) ds at.part)

    -- its operation, where it stands at this call
    blocks_at : (c : Primitive) (vs : List V) → h.term.part ≡ performs (calls c vs) → Blocks at.reason (Calls c vs)
    blocks_at c vs p = subst (Blocks at.reason) (call_of (typed.has r.stacks.store) ds (subst (λ z. PartStands (typed.has r.stacks.store) ds z (Performs at.op) (r.stacks.store.sorts t)) p at.part)) at.blocks

    pub thrower_waits : (u : ℕ) (e : Exn) → h.term.part ≡ performs (calls ThrowTo (val.Thread u ∷ Exception e ∷ [])) → (left_lines t x.cells ≡ x.cells) × NotAsleep t x.sleepers
    thrower_waits u e p =
        let w : reason_of t s.blocked ≡ Some (Throwing u e) = at.waits ∙ ap Some (throw_reason u e at.reason (blocks_at ThrowTo (val.Thread u ∷ Exception e ∷ []) p)) in
        (in_no_line ds x s r t (λ m. away_leaves m t s.blocked stands.once (subst (Away m) (sym w) refl)), awake ds x s r t (sleepers_stay t s.blocked stands.once (subst Awake (sym w) tt)))

    pub sleeper_waits : (n : ℤ) → h.term.part ≡ performs (calls ThreadDelay (Int n ∷ [])) → (left_lines t x.cells ≡ x.cells) × NotThrowing t x.flight
    sleeper_waits n p =
        let d = sleep_reason n at.reason (blocks_at ThreadDelay (Int n ∷ []) p) in
        let w : reason_of t s.blocked ≡ Some (Sleeping d.0) = at.waits ∙ ap Some d.1 in
        (in_no_line ds x s r t (λ m. away_leaves m t s.blocked stands.once (subst (Away m) (sym w) refl)), silent ds x s r t (flight_stays t s.blocked stands.once (subst Silent (sym w) tt)))

-- ---- whom a thread throws at
pub target_there : (script : Script) → Accepted script → (es : List Entry) (s : State) → IsRun (script_of script) es s → (x : SlotState) → Represents (script_of script) x s → (t u : ℕ) (e : Exn)
    → StandsAt x t (performs (calls ThrowTo (val.Thread u ∷ Exception e ∷ [])))
    → (th : SlotThread) × (slice_get x.threads u ≡ Some th)
target_there script accepted es s run x r t u e h = by (slice_get s.threads u) refl
  where
    by : (o : Option Thread) → slice_get s.threads u ≡ o → (th : SlotThread) × (slice_get x.threads u ≡ Some th)
    by (Some th) q = let k = slotted_of (script_of script) x s r u th q in (k.0, k.1)
    by None q =
        let a = at_call (script_of script) x s r t ThrowTo (val.Thread u ∷ Exception e ∷ []) h in
        let v = operations_go_on script accepted es s run t a.thread a.running (Calls ThrowTo (val.Thread u ∷ Exception e ∷ [])) a.part in
        let z : None ≡ Some v.0 = sym (ap (λ o. throw_at t u e o s) q) ∙ v.1 in
        absurd (cc z)
