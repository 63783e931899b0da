-- A world after a thread has finished: all that throw at it are answered, one after another.
use Rattle.std.proofs.Common.{◌≡◌, ◌≢◌, ◌≤◌, ◌<◌, ◌+◌, ℕ, ◌==◌, List, [], ◌∷◌, ◌++◌, length, Bool, true, false, cond, Some, None, refl, sym, ap, ◌∙◌, subst, arith, ⊎_elim, slice_get}
use Rattle.std.proofs.lemmas.List.{append-nil}
use Rattle.std.proofs.lemmas.Option.{same_Some}
use Rattle.std.proofs.Math.Logic.{∥∥₁_elim, ∥∥₁_map}
use Rattle.hs_base.specs.declared.exn.Exn.{Exn}
use Rattle.hs_base.specs.declared.value.Value.TheVariants as value
use Rattle.hs_rules.specs.declared.entry.Entry.{Entry}
use Rattle.hs_rules.specs.declared.entry.Entry.TheVariants as entry
use Rattle.hs_rules.specs.Entries.{throwers}
use Rattle.hs_laws.proofs.Lists.{cond_true, cond_false, equal_or, Absent_in, Distinct, Ones, ones_apart, ones_changed, ones_those_if, distinct_those, throws_at, throwers_are, once_reason}
use Rattle.hs_laws.proofs.Stranding.{reason_blocked}
use Rattle.hs_laws.proofs.Expanded.{standing_of}
use Rattle.rules_expansion.specs.trees.Programs.{script_of}
use Rattle.rules_meaning.specs.Values.{UnitValue, value_of}
use Rattle.rules_typing.specs.TypingScripts.{Accepted}
use Rattle.rules_code.specs.declared.code.CodeBody.{CodeBody}
use Rattle.rules_waiting.specs.Waiting.{Flying, flying_to, first_thrown, withdrawn, without, reason_of}
use Rattle.exn_flight.specs.Flights.{after_delivery}
use Rattle.exn_flight.specs.Asleep.{Asleep}
use Rattle.mvar_cell.specs.Mvars.{Mvars}
use Rattle.slot_laws.specs.SlotRules.{ret, at}
use Rattle.slot_states.specs.SlotStates.{all_resumed, finished_at, all_withdrawn, finishes, Enters}
use Rattle.slot_states.proofs.Finishing.{value_ended, exception_ended}
use Rattle.slot_states.proofs.Reading.{blocked_there}
use Rattle.local_steps.specs.Machine.{frames_of}
use Rattle.frame_stack.specs.declared.control.Control.{Control}
use Rattle.frame_stack.specs.declared.control.Control.TheVariants as c
use Rattle.frame_stack.specs.Parts.{IsOp, part_of}
use Rattle.thread_table.specs.declared.thread.Thread.{Thread}
use Rattle.thread_table.specs.declared.threads.Threads.{Threads}
use Rattle.thread_table.specs.Rooms.{work_room}
use Rattle.thread_table.specs.Kinds.{IsEnd}
use Rattle.thread_table.specs.Table.{slot_of, slots_of, changed, with_control, finishing, IsAt}
use Rattle.thread_table.proofs.Table.{slots_is, slots_finished, changed_is, changed_other}
use Rattle.world_entries.specs.declared.world.World.{World}
use Rattle.world_entries.specs.Worlds.{state_of, slot_cells, Live, IsLive, Makes, Goes, HasRoom, Ends, end_bytes}
use Rattle.world_entries.proofs.Making.{main_goes, op_shown, made}
use Rattle.world_entries.proofs.Waiters.{blocked_op}
use Rattle.world_entries.proofs.Entered.{same_state, slots_unit}

-- a thread stands at an operation
abbrev pub AtOp : List Thread → ℕ → Type 0
AtOp ths u = IsAt u (λ (th : Thread). IsOp th.stack.control) ths

-- ---- lists of numbers
abbrev out : ℕ → List ℕ → List ℕ
out u us = without (λ (n : ℕ). n) u us

absent_out : (u : ℕ) (us : List ℕ) → Absent_in u us → out u us ≡ us
absent_out u [] a = refl
absent_out u (v ∷ vs) a = cond_false (v == u) (out u vs) (v ∷ out u vs) (⊎_elim (λ e. absurd (a.0 e.1)) (λ e. e.0) (equal_or v u)) ∙ ap (λ ws. v ∷ ws) (absent_out u vs a.1)

first_out : (u : ℕ) (us : List ℕ) → Absent_in u us → out u (u ∷ us) ≡ us
first_out u us a = cond_true (u == u) (out u us) (u ∷ out u us) (⊎_elim (λ e. e.0) (λ e. absurd (e.1 refl)) (equal_or u u)) ∙ absent_out u us a

moved_over : (us : List ℕ) (u : ℕ) (vs : List ℕ) → us ++ u ∷ vs ≡ (us ++ u ∷ []) ++ vs
moved_over [] u vs = refl
moved_over (w ∷ us) u vs = ap (λ ws. w ∷ ws) (moved_over us u vs)

-- ---- who throws at a thread
first_is : (u : ℕ) (e : Exn) (gs : List Flying) → first_thrown gs ≡ Some (u, e) → (us : List ℕ) × (throwers gs ≡ u ∷ us)
first_is u e [] h = absurd (cc h)
first_is u e (g ∷ gs) h = let q : ◌≡◌ {A = ℕ × Exn} (g.thrower, g.exn) (u, e) = same_Some (g.thrower, g.exn) (u, e) h in (throwers gs, ap (λ (z : ℕ × Exn). z.0 ∷ throwers gs) q)

nobody_throws : (gs : List Flying) → first_thrown gs ≡ None → throwers gs ≡ []
nobody_throws [] h = refl
nobody_throws (g ∷ gs) h = absurd (cc h)

module _ (t u : ℕ) where
  one_over : (a b : Bool) (f : Flying) (ws fs : List Flying) → f.thrower == u ≡ a → f.target == t ≡ b → throwers (flying_to t ws) ≡ out u (throwers fs) → throwers (flying_to t (cond a ws (f ∷ ws))) ≡ out u (throwers (cond b (f ∷ fs) fs))
  one_over true true f ws fs p q h = h ∙ sym (cond_true (f.thrower == u) (out u (throwers fs)) (f.thrower ∷ out u (throwers fs)) p)
  one_over true false f ws fs p q h = h
  one_over false true f ws fs p q h =
      ap throwers (cond_true (f.target == t) (f ∷ flying_to t ws) (flying_to t ws) q)
      ∙ (ap (λ us. f.thrower ∷ us) h ∙ sym (cond_false (f.thrower == u) (out u (throwers fs)) (f.thrower ∷ out u (throwers fs)) p))
  one_over false false f ws fs p q h = ap throwers (cond_false (f.target == t) (f ∷ flying_to t ws) (flying_to t ws) q) ∙ h

  over : (fs : List Flying) → throwers (flying_to t (withdrawn u fs)) ≡ out u (throwers (flying_to t fs))
  over [] = refl
  over (f ∷ fs) = one_over (f.thrower == u) (f.target == t) f (withdrawn u fs) (flying_to t fs) refl refl (over fs)

fewer : (b : Bool) (f : Flying) (gs : List Flying) (n : ℕ) → length (throwers gs) ≤ n → length (throwers (cond b (f ∷ gs) gs)) ≤ n + 1
fewer true f gs n h = omega (arith, h)
fewer false f gs n h = omega (arith, h)

few_throw : (t : ℕ) (fs : List Flying) → length (throwers (flying_to t fs)) ≤ length fs
few_throw t [] = omega arith
few_throw t (f ∷ fs) = let k = fewer (f.target == t) f (flying_to t fs) (length fs) (few_throw t fs) in omega (arith, k)

-- ---- in a world that stands for the state of a run
module _ (w : World) (b : CodeBody) (es : List Entry) (l : Live b es w) (t : ℕ) where
  distinct_now : Distinct (throwers (flying_to t w.threads.flight.list))
  distinct_now =
      subst Distinct (sym (ap (λ fs. throwers (flying_to t fs)) l.represents.agrees.flight ∙ throwers_are t l.state.blocked))
      (distinct_those (λ u. throws_at t) l.state.blocked (standing_of (script_of b.of.value) es l.state l.run).once)

  all_at_op : Ones (AtOp w.threads.list.items) (throwers (flying_to t w.threads.flight.list))
  all_at_op =
      subst (Ones (AtOp w.threads.list.items)) (sym (ap (λ fs. throwers (flying_to t fs)) l.represents.agrees.flight ∙ throwers_are t l.state.blocked))
      (ones_those_if (λ v r. reason_of v l.state.blocked ≡ Some r) (AtOp w.threads.list.items) (λ u. throws_at t) l.state.blocked
      (λ v r _ e. let h = blocked_there (script_of b.of.value) (state_of b w) l.state l.represents (standing_of (script_of b.of.value) es l.state l.run) v (reason_blocked v l.state.blocked r e) in blocked_op w b es l v h.0 h.1 h.2)
      (once_reason l.state.blocked (standing_of (script_of b.of.value) es l.state l.run).once))

absent_prop : (u : ℕ) (us : List ℕ) → IsProp (Absent_in u us)
absent_prop u [] = λ x y. refl
absent_prop u (v ∷ us) = let p = absent_prop u us in hlevel p

distinct_prop : (us : List ℕ) → IsProp (Distinct us)
distinct_prop [] = λ x y. refl
distinct_prop (u ∷ us) = let p = absent_prop u us in let q = distinct_prop us in hlevel (p, q)

pub distinct_live : (w : World) → IsLive w → (t : ℕ) → Distinct (throwers (flying_to t w.threads.flight.list))
distinct_live w live t = ∥∥₁_elim live (distinct_prop (throwers (flying_to t w.threads.flight.list))) (λ p. distinct_now w p.0 p.1 p.2 t)

each_alone : (P : ℕ → Type 0) (us : List ℕ) → ∥ Ones P us ∥₁ → Ones (λ u. ∥ P u ∥₁) us
each_alone P [] h = tt
each_alone P (u ∷ us) h = (∥∥₁_map h (λ k. k.0), each_alone P us (∥∥₁_map h (λ k. k.1)))

-- who throws at a thread stands at an operation
pub throwers_op : (w : World) → IsLive w → (t : ℕ) → Ones (AtOp w.threads.list.items) (throwers (flying_to t w.threads.flight.list))
throwers_op w live t =
    ones_changed (λ u. ∥ AtOp w.threads.list.items u ∥₁) (AtOp w.threads.list.items) (throwers (flying_to t w.threads.flight.list)) (λ u. op_shown w.threads.list.items u)
    (each_alone (AtOp w.threads.list.items) (throwers (flying_to t w.threads.flight.list)) (∥∥₁_map live (λ p. all_at_op w p.0 p.1 p.2 t)))

-- ---- each of these threads is answered (), in order
abbrev pub all_unit : List ℕ → List Thread → List Thread
all_unit [] ths = ths
all_unit (u ∷ us) ths = all_unit us (changed u (with_control (c.Ret value.Unit)) ths)

slots_all_unit : (b : CodeBody) (us : List ℕ) (ths : List Thread) → slots_of b (all_unit us ths) ≡ all_resumed us (ret UnitValue) (slots_of b ths)
slots_all_unit b [] ths = refl
slots_all_unit b (u ∷ us) ths = slots_all_unit b us (changed u (with_control (c.Ret value.Unit)) ths) ∙ ap (all_resumed us (ret UnitValue)) (slots_unit b ths u)

one_more : (us : List ℕ) (u : ℕ) (ths : List Thread) → all_unit (us ++ u ∷ []) ths ≡ changed u (with_control (c.Ret value.Unit)) (all_unit us ths)
one_more [] u ths = refl
one_more (v ∷ us) u ths = one_more us u (changed v (with_control (c.Ret value.Unit)) ths)

one_less : (us : List ℕ) (u : ℕ) (fs : List Flying) → all_withdrawn (us ++ u ∷ []) fs ≡ withdrawn u (all_withdrawn us fs)
one_less [] u fs = refl
one_less (v ∷ us) u fs = one_less us u (withdrawn v fs)

-- ---- the loop
-- of those that throw at thread t these are answered, and the others follow
pub record Answering (t : ℕ) (us : List ℕ) (ths : List Thread) (fs : List Flying) (s : Threads) : Type 0 where
  pub all : throwers (flying_to t fs) ≡ us ++ throwers (flying_to t s.flight.list)
  pub list : s.list.items ≡ all_unit us ths
  pub flight : s.flight.list ≡ all_withdrawn us fs
  pub apart : Distinct (throwers (flying_to t s.flight.list))
  pub ops : Ones (AtOp s.list.items) (throwers (flying_to t s.flight.list))
  pub room : length (throwers (flying_to t s.flight.list)) ≤ work_room s

at_op_other : (ths : List Thread) (u v : ℕ) (f : Thread → Thread) → v ≢ u → AtOp ths v → AtOp (changed u f ths) v
at_op_other ths u v f n h = record { thread = h.thread; is = changed_other ths u v f n ∙ h.is; holds = h.holds }

at_op_finished : (ths : List Thread) (t v : ℕ) → AtOp ths v → AtOp (changed t finishing ths) v
at_op_finished ths t v h =
    ⊎_elim
    (λ e. subst (AtOp (changed t finishing ths)) (sym e.1)
    (record { thread = finishing h.thread; is = changed_is ths t finishing h.thread (ap (slice_get ths) (sym e.1) ∙ h.is); holds = h.holds }))
    (λ e. at_op_other ths t v finishing e.1 h)
    (equal_or v t)

-- before the first
pub answering_first : (w : World) (t : ℕ) (s : Threads) → IsLive w → HasRoom w → s.list.items ≡ changed t finishing w.threads.list.items → s.flight.list ≡ w.threads.flight.list → work_room w.threads ≤ work_room s
    → Answering t [] s.list.items s.flight.list s
answering_first w t s live room list flight more = record {
  all = refl;
  list = refl;
  flight = refl;
  apart = subst (λ fs. Distinct (throwers (flying_to t fs))) (sym flight) (distinct_live w live t);
  ops = subst (λ fs. Ones (AtOp s.list.items) (throwers (flying_to t fs))) (sym flight)
      (ones_changed (AtOp w.threads.list.items) (AtOp s.list.items) (throwers (flying_to t w.threads.flight.list)) (λ u h. subst (λ ths. AtOp ths u) (sym list) (at_op_finished w.threads.list.items t u h)) (throwers_op w live t));
  room = let k = few_throw t w.threads.flight.list in let r = room.threads.work in subst (λ fs. length (throwers (flying_to t fs)) ≤ work_room s) (sym flight) (omega (arith, k, r, more));
}

-- the next one
module _ (t : ℕ) (us : List ℕ) (ths : List Thread) (fs : List Flying) (s : Threads) (g : Answering t us ths fs s) (u : ℕ) (e : Exn) (first : first_thrown (flying_to t s.flight.list) ≡ Some (u, e)) where
  next : (vs : List ℕ) × (throwers (flying_to t s.flight.list) ≡ u ∷ vs)
  next = first_is u e (flying_to t s.flight.list) first

  pub next_fewer : (s' : Threads) → s'.flight.list ≡ after_delivery (first_thrown (flying_to t s.flight.list)) s.flight.list → length (throwers (flying_to t s'.flight.list)) < length (throwers (flying_to t s.flight.list))
  next_fewer s' flight =
      let left : throwers (flying_to t s'.flight.list) ≡ next.0 = ap (λ z. throwers (flying_to t z)) (flight ∙ ap (λ o. after_delivery o s.flight.list) first) ∙ (over t u s.flight.list ∙ (ap (out u) next.1 ∙ first_out u next.0 (subst Distinct next.1 g.apart).0)) in
      let k = ap length left in
      let m = ap length next.1 in
      omega (arith, k, m)

  pub answering_next : (s' : Threads) → s'.list.items ≡ changed u (with_control (c.Ret value.Unit)) s.list.items → s'.flight.list ≡ after_delivery (first_thrown (flying_to t s.flight.list)) s.flight.list → work_room s ≤ work_room s' + 1
      → Answering t (us ++ u ∷ []) ths fs s'
  answering_next s' list flight more =
      let gone : s'.flight.list ≡ withdrawn u s.flight.list = flight ∙ ap (λ o. after_delivery o s.flight.list) first in
      let apart = subst Distinct next.1 g.apart in
      let left : throwers (flying_to t s'.flight.list) ≡ next.0 = ap (λ z. throwers (flying_to t z)) gone ∙ (over t u s.flight.list ∙ (ap (out u) next.1 ∙ first_out u next.0 apart.0)) in
      let ops = subst (Ones (AtOp s.list.items)) next.1 g.ops in
      let room = subst (λ z. length z ≤ work_room s) next.1 g.room in
      record {
        all = g.all ∙ (ap (λ z. us ++ z) next.1 ∙ (moved_over us u next.0 ∙ ap (λ z. (us ++ u ∷ []) ++ z) (sym left)));
        list = list ∙ (ap (changed u (with_control (c.Ret value.Unit))) g.list ∙ sym (one_more us u ths));
        flight = gone ∙ (ap (withdrawn u) g.flight ∙ sym (one_less us u fs));
        apart = subst Distinct (sym left) apart.1;
        ops = subst (Ones (AtOp s'.list.items)) (sym left)
            (ones_apart (AtOp s.list.items) (AtOp s'.list.items) u next.0 (λ v n h. subst (λ z. AtOp z v) (sym list) (at_op_other s.list.items u v (with_control (c.Ret value.Unit)) n h)) apart.0 ops.1);
        room = subst (λ z. length z ≤ work_room s') (sym left) (omega (arith, room, more));
      }

-- after the last
answering_last : (t : ℕ) (us : List ℕ) (ths : List Thread) (fs : List Flying) (s : Threads) → Answering t us ths fs s → first_thrown (flying_to t s.flight.list) ≡ None → us ≡ throwers (flying_to t fs)
answering_last t us ths fs s g none = sym (g.all ∙ (ap (λ z. us ++ z) (nobody_throws (flying_to t s.flight.list) none) ∙ append-nil us))

-- ---- the entry
module _ (w : World) (goes : Goes w) (t n : ℕ) (ends : Ends t n w) (b : CodeBody) (accepted : Accepted b.of.value) where
  by : (k : Control) → ends.thread.stack.control ≡ k → IsEnd k → n ≡ end_bytes t k → Enters b.of.value (entry.Finish t) (state_of b w) (finishes t n (state_of b w))
  by (c.Doing i vs) e h q = absurd h
  by (c.Op p) e h q = absurd h
  by (c.Ret v) e h q =
      subst (λ z. Enters b.of.value (entry.Finish t) (state_of b w) (finishes t z (state_of b w))) (sym q)
      (value_ended b.of.value accepted (state_of b w) t (value_of v)
      (record { thread = slot_of b ends.thread; is = slots_is b w.threads.list.items t ends.thread ends.is; term = λ i. at (part_of b (e i)) (frames_of b (ends.bare.1 i)); unfinished = ends.unfinished; free = ends.free })
      (main_goes w goes b))
  by (c.Throw x) e h q =
      subst (λ z. Enters b.of.value (entry.Finish t) (state_of b w) (finishes t z (state_of b w))) (sym q)
      (exception_ended b.of.value accepted (state_of b w) t x
      (record { thread = slot_of b ends.thread; is = slots_is b w.threads.list.items t ends.thread ends.is; term = λ i. at (part_of b (e i)) (frames_of b (ends.bare.1 i)); unfinished = ends.unfinished; free = ends.free })
      (main_goes w goes b))

  ends_entered : Enters b.of.value (entry.Finish t) (state_of b w) (finishes t n (state_of b w))
  ends_entered = by ends.thread.stack.control refl ends.bare.0 ends.bytes

pub finish_makes : (old new : World) (now : Threads) (t n : ℕ) (us : List ℕ) (ths : List Thread) (fs : List Flying) → Goes old → Ends t n old → ths ≡ changed t finishing old.threads.list.items → fs ≡ old.threads.flight.list → Answering t us ths fs now
    → first_thrown (flying_to t now.flight.list) ≡ None → new.threads.list.items ≡ now.list.items → new.threads.flight.list ≡ now.flight.list → new.cells ≡ old.cells → new.sleepers ≡ old.sleepers
    → new.clock ≡ old.clock → new.instances ≡ old.instances → new.timeouts ≡ old.timeouts → new.printed ≡ old.printed + n → Makes (entry.Finish t) old new
finish_makes old new now t n us ths fs goes ends finished same g none list flight cells sleepers clock instances timeouts printed =
    let all = answering_last t us ths fs now g none ∙ ap (λ z. throwers (flying_to t z)) same in
    made (entry.Finish t) old new (λ b. finishes t n (state_of b old))
    (λ b. same_state (state_of b new) (finishes t n (state_of b old))
    (ap (slots_of b) (list ∙ g.list)
    ∙ (slots_all_unit b us ths
    ∙ (ap (λ z. all_resumed us (ret UnitValue) (slots_of b z)) finished
    ∙ (ap (all_resumed us (ret UnitValue)) (slots_finished b old.threads.list.items t) ∙ ap (λ z. all_resumed z (ret UnitValue) (finished_at t (slots_of b old.threads.list.items))) all))))
    (ap (λ (z : Mvars). slot_cells z.cells) cells)
    (flight ∙ (g.flight ∙ (ap (all_withdrawn us) same ∙ ap (λ z. all_withdrawn z old.threads.flight.list) all)))
    (ap (λ (z : Asleep). z.list) sleepers) clock instances timeouts printed)
    (λ b accepted. ends_entered old goes t n ends b accepted)
