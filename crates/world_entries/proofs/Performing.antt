-- Operations that no cell answers: the world that each of them leaves, and what is asked before it.
use Rattle.std.proofs.Common.{arith, add-one, zero, ◌≡◌, ◌≢◌, ◌<◌, ◌+◌, ◌++◌, inl, inr, ℕ, suc, ℤ, pos, negsuc, nat_abs, to_z, of_z, w64, int_le, FitsSigned, min, Bool, true, false, List, [], ◌∷◌, Some, slice_get, slice_index_or, sym, ap, ◌∙◌, subst}
use Rattle.std.proofs.Math.Logic.{∥∥₁_elim}
use Rattle.std.proofs.Math.Bool.{Bool-set}
use Rattle.std.proofs.Math.Bridge.{le_prop}
use Rattle.std.proofs.Math.Facts.{to_z-of_z, to_z_pos}
use Rattle.std.proofs.lemmas.Bool.{leb-true}
use Rattle.std.proofs.lemmas.Option.{slice_get_within, slice_get_read}
use Rattle.hs_base.specs.declared.value.Value.{Value}
use Rattle.hs_base.specs.declared.value.Value.TheVariants as raw
use Rattle.hs_base.specs.declared.mask.Mask.{Mask}
use Rattle.hs_base.specs.declared.mask.Mask.TheVariants.{Unmasked}
use Rattle.hs_base.specs.declared.exn.Exn.{Exn}
use Rattle.hs_base.specs.declared.exn.Exn.TheVariants.{Timeout}
use Rattle.hs_rules.specs.declared.entry.Entry.TheVariants as entry
use Rattle.hs_rules.specs.Primitives.{masking_text}
use Rattle.rules_meaning.specs.Values as val
use Rattle.rules_meaning.specs.Values.{V, UnitValue, value_of}
use Rattle.rules_expansion.specs.trees.Programs.{script_of}
use Rattle.rules_typing.specs.TypingScripts.{Accepted}
use Rattle.rules_code.specs.declared.code.CodeBody.{CodeBody}
use Rattle.rules_waiting.specs.Waiting.{Flying, is_throwing, is_sleeping, sleeper_added}
use Rattle.exn_flight.specs.Asleep.{Asleep}
use Rattle.slot_laws.specs.SlotRules.{at, throw, performs, mask_from}
use Rattle.hs_eval.proofs.Cases.{value_of-Unit, value_of-Int, value_of-Text, value_of-Thread, value_of-Exn, value_of-Inst}
use Rattle.slot_states.specs.SlotStates.{SlotThread, SlotState, Enters, StandsAt, answered, resumed, blocked_at, answer, prints, throws, throws_at, sleeps}
use Rattle.slot_states.proofs.Printing.{prints_text, prints_line, prints_error_line, answers_thread, answers_masking, answers_clock, answers_timeout, answers_acquired, answers_release}
use Rattle.slot_states.proofs.Blocking.{delay_sleeps, delay_none, delay_less, throws_itself, throws_at_finished, throws_at_other}
use Rattle.slot_states.proofs.Waits.{free_waits, target_there}
use Rattle.local_steps.specs.Machine.{frames_of}
use Rattle.frame_stack.specs.declared.control.Operation.{Operation}
use Rattle.frame_stack.specs.declared.control.Operation.TheVariants as o
use Rattle.frame_stack.specs.declared.control.Control.TheVariants as c
use Rattle.frame_stack.specs.Parts.{op_of}
use Rattle.thread_table.specs.declared.thread.Thread.{Thread}
use Rattle.thread_table.specs.declared.threads.Threads.{Threads}
use Rattle.thread_table.specs.Table.{slot_of, slots_of, changed, with_control}
use Rattle.thread_table.proofs.Table.{lent_is, slots_is, slots_count, slots_resumed, slots_blocked}
use Rattle.world_entries.specs.declared.world.World.{World}
use Rattle.world_entries.specs.Worlds.{state_of, IsLive, Makes, Stands, Prints, Goes}
use Rattle.world_entries.proofs.Making.{made, stands_at, main_goes}

-- ---- what a world stands for whose threads are others

pub with_threads : (w : World) (n : Threads) (b : CodeBody) (ths : List SlotThread) (fs : List Flying) → slots_of b n.list.items ≡ ths → n.flight.list ≡ fs
    → state_of b (record w { threads = n }) ≡ record (state_of b w) { threads = ths; flight = fs }
with_threads w n b ths fs e f =
    ap (λ xs. record (state_of b w) { threads = xs; flight = n.flight.list }) e
    ∙ ap (λ xs. record (state_of b w) { threads = ths; flight = xs }) f

-- thread t is answered
pub with_answer : (w : World) (n : Threads) (t : ℕ) (v : Value) (u : V) → value_of v ≡ u → n.list.items ≡ changed t (with_control (c.Ret v)) w.threads.list.items → n.flight ≡ w.threads.flight
    → (b : CodeBody) → state_of b (record w { threads = n }) ≡ answer t u (state_of b w)
with_answer w n t v u is list flight b =
    with_threads w n b (answered t u (slots_of b w.threads.list.items)) w.threads.flight.list
    (ap (slots_of b) list ∙ (slots_resumed b w.threads.list.items t (c.Ret v) ∙ ap (λ x. answered t x (slots_of b w.threads.list.items)) is))
    (ap (λ f. f.list) flight)

-- it throws
pub with_throw : (w : World) (n : Threads) (t : ℕ) (e : Exn) → n.list.items ≡ changed t (with_control (c.Throw e)) w.threads.list.items → n.flight ≡ w.threads.flight
    → (b : CodeBody) → state_of b (record w { threads = n }) ≡ throws t e (state_of b w)
with_throw w n t e list flight b =
    with_threads w n b (resumed t (throw e) (slots_of b w.threads.list.items)) w.threads.flight.list
    (ap (slots_of b) list ∙ slots_resumed b w.threads.list.items t (c.Throw e))
    (ap (λ f. f.list) flight)

-- it is blocked
abbrev pub IsBlocked : ℕ → List Thread → List Thread → Type 0
IsBlocked t old new = (l : Bool) × (new ≡ changed t (λ th. record th { blocked = true; listed = l }) old)

pub blocked_slots : (b : CodeBody) (t : ℕ) (old new : List Thread) → IsBlocked t old new → slots_of b new ≡ blocked_at t (slots_of b old)
blocked_slots b t old new h = ap (slots_of b) h.1 ∙ slots_blocked b old t h.0

-- ---- what is known of a thread that stands at an operation

module _ (w : World) (t : ℕ) (q : Operation) (live : IsLive w) (s : Stands w t q) where
  -- it throws nothing, and doesn't sleep
  pub throws_nothing : is_throwing t w.threads.flight.list ≡ false
  throws_nothing = ∥∥₁_elim live (hlevel (Bool-set)) (λ h.
      let l = h.2 in
      (free_waits (script_of h.0.of.value) (state_of h.0 w) l.state l.represents t (slot_of h.0 s.thread) (slots_is h.0 w.threads.list.items t s.thread s.is) s.free).3)

  pub is_awake : is_sleeping t w.sleepers.list ≡ false
  is_awake = ∥∥₁_elim live (hlevel (Bool-set)) (λ h.
      let l = h.2 in
      (free_waits (script_of h.0.of.value) (state_of h.0 w) l.state l.represents t (slot_of h.0 s.thread) (slots_is h.0 w.threads.list.items t s.thread s.is) s.free).4)

  -- the target of a throw is there
  pub target_is_there : (u : ℕ) (e : Exn) → q ≡ o.ThrowTo u e → u < w.threads.list.len
  target_is_there u e is = ∥∥₁_elim live (hlevel (le_prop)) (λ h.
      let l = h.2 in
      let x : SlotState = state_of h.0 w in
      let k = target_there h.0.of.value l.accepted h.1 l.state l.run x l.represents t u e (subst (λ p. StandsAt x t (performs (op_of h.0 p))) is (stands_at w t q s h.0)) in
      subst (λ n. u < n) (slots_count h.0 w.threads.list.items ∙ sym w.threads.list.ok.0) (slice_get_within (slots_of h.0 w.threads.list.items) u k.0 k.1))

  pub lent_target : (u : ℕ) (e : Exn) → q ≡ o.ThrowTo u e → (x : Thread) → x ≡ slice_index_or w.threads.list.items u x → slice_get w.threads.list.items u ≡ Some x
  lent_target u e is x at = slice_get_read w.threads.list.items w.threads.list.len u x w.threads.list.ok.0 (target_is_there u e is) at

-- the masking state of the thread that is lent
pub masked_as : (w : World) (t : ℕ) (q : Operation) (s : Stands w t q) (x : Thread) → x ≡ slice_index_or w.threads.list.items t x → (m : Mask) → ((b : CodeBody) → m ≡ mask_from Unmasked (frames_of b x.stack.frames))
    → (b : CodeBody) → m ≡ mask_from Unmasked (frames_of b s.thread.stack.frames)
masked_as w t q s x at m is b = is b ∙ ap (λ (th : Thread). mask_from Unmasked (frames_of b th.stack.frames)) (lent_is w.threads.list.items t s.thread x s.is at)

-- ---- signs
not_positive : (k : ℕ) → int_le (pos (suc k)) (pos 0) ≡ true → ⊥
not_positive k e = omega (arith, leb-true (suc k) 0 e)

none_is_no_more : int_le (pos 0) (pos 0) ≡ false → ⊥
none_is_no_more e = cc e

less_is_no_more : (k : ℕ) → int_le (negsuc k) (pos 0) ≡ false → ⊥
less_is_no_more k e = cc e

-- ---- what each operation makes

module _ (w : World) (t : ℕ) (goes : Goes w) (n : Threads) where
  -- it prints
  abbrev PrintEnters : CodeBody → ℕ → Type 0
  PrintEnters b k = Enters b.of.value (entry.Op t) (state_of b w) (prints t k (state_of b w))

  prints_law : (k : ℕ) → Prints w t k → (b : CodeBody) → Accepted b.of.value → PrintEnters b k
  prints_law k (inl p) b a = subst (PrintEnters b) (sym p.2) (prints_text b.of.value a (state_of b w) t p.0 (stands_at w t (o.PutStr p.0) p.1 b) (main_goes w goes b))
  prints_law k (inr (inl p)) b a = subst (PrintEnters b) (sym p.2) (prints_line b.of.value a (state_of b w) t p.0 (stands_at w t (o.PutStrLn p.0) p.1 b) (main_goes w goes b))
  prints_law k (inr (inr p)) b a = subst (PrintEnters b) (sym p.2) (prints_error_line b.of.value a (state_of b w) t p.0 (stands_at w t (o.HPutStrLn p.0) p.1 b) (main_goes w goes b))

  pub print_made : (k : ℕ) → Prints w t k → n.list.items ≡ changed t (with_control (c.Ret raw.Unit)) w.threads.list.items → n.flight ≡ w.threads.flight
      → Makes (entry.Op t) w (record w { threads = n; printed = w.printed + k })
  print_made k p list flight =
      made (entry.Op t) w (record w { threads = n; printed = w.printed + k }) (λ b. prints t k (state_of b w))
      (with_answer (record w { printed = w.printed + k }) n t raw.Unit UnitValue value_of-Unit list flight)
      (prints_law k p)

  -- it is answered, and all else stays
  answer_made : (v : Value) (u : CodeBody → V) → ((b : CodeBody) → value_of v ≡ u b) → n.list.items ≡ changed t (with_control (c.Ret v)) w.threads.list.items → n.flight ≡ w.threads.flight
      → ((b : CodeBody) → Accepted b.of.value → Enters b.of.value (entry.Op t) (state_of b w) (answer t (u b) (state_of b w))) → Makes (entry.Op t) w (record w { threads = n })
  answer_made v u is list flight law =
      made (entry.Op t) w (record w { threads = n }) (λ b. answer t (u b) (state_of b w)) (λ b. with_answer w n t v (u b) (is b) list flight b) law

  pub thread_made : Stands w t o.MyThreadId → n.list.items ≡ changed t (with_control (c.Ret (raw.Thread t))) w.threads.list.items → n.flight ≡ w.threads.flight → Makes (entry.Op t) w (record w { threads = n })
  thread_made s list flight =
      answer_made (raw.Thread t) (λ b. val.Thread t) (λ b. value_of-Thread t) list flight (λ b a. answers_thread b.of.value a (state_of b w) t (stands_at w t o.MyThreadId s b) (main_goes w goes b))

  pub masking_made : (s : Stands w t o.GetMaskingState) (m : Mask) (text : List ℕ) → ((b : CodeBody) → m ≡ mask_from Unmasked (frames_of b s.thread.stack.frames)) → text ≡ masking_text m
      → n.list.items ≡ changed t (with_control (c.Ret (raw.Text text))) w.threads.list.items → n.flight ≡ w.threads.flight → Makes (entry.Op t) w (record w { threads = n })
  masking_made s m text mask is list flight =
      answer_made (raw.Text text) (λ b. val.Text (masking_text (mask_from Unmasked (frames_of b s.thread.stack.frames)))) (λ b. value_of-Text text ∙ ap val.Text (is ∙ ap masking_text (mask b))) list flight
      (λ b a. answers_masking b.of.value a (state_of b w) t (stands_at w t o.GetMaskingState s b) (main_goes w goes b))

  pub clock_made : Stands w t o.ClockMicros → (r : ℕ) → r ≡ min w.clock 9223372036854775807
      → n.list.items ≡ changed t (with_control (c.Ret (raw.Int (to_z w64 r)))) w.threads.list.items → n.flight ≡ w.threads.flight → Makes (entry.Op t) w (record w { threads = n })
  clock_made s r is list flight =
      let small : r < 9223372036854775808 = omega (arith, is) in
      answer_made (raw.Int (to_z w64 r)) (λ b. val.Int (pos (min w.clock 9223372036854775807))) (λ b. value_of-Int (to_z w64 r) ∙ ap val.Int (to_z_pos w64 small ∙ ap pos is)) list flight
      (λ b a. answers_clock b.of.value a (state_of b w) t (stands_at w t o.ClockMicros s b) (main_goes w goes b))

  pub release_made : (i : ℕ) → Stands w t (o.Release i) → n.list.items ≡ changed t (with_control (c.Ret raw.Unit)) w.threads.list.items → n.flight ≡ w.threads.flight → Makes (entry.Op t) w (record w { threads = n })
  release_made i s list flight =
      answer_made raw.Unit (λ b. UnitValue) (λ b. value_of-Unit) list flight (λ b a. answers_release b.of.value a (state_of b w) t i (stands_at w t (o.Release i) s b) (main_goes w goes b))

  -- numbers of timeouts and of uses of `bracket`
  pub timeout_made : Stands w t o.NewTimeout → n.list.items ≡ changed t (with_control (c.Ret (raw.Exn (Timeout w.timeouts)))) w.threads.list.items → n.flight ≡ w.threads.flight
      → Makes (entry.Op t) w (record w { threads = n; timeouts = w.timeouts + 1 })
  timeout_made s list flight =
      made (entry.Op t) w (record w { threads = n; timeouts = w.timeouts + 1 }) (λ b. record (answer t (val.Exception (Timeout w.timeouts)) (state_of b w)) { next_timeout = suc w.timeouts })
      (λ b. with_answer (record w { timeouts = w.timeouts + 1 }) n t (raw.Exn (Timeout w.timeouts)) (val.Exception (Timeout w.timeouts)) (value_of-Exn (Timeout w.timeouts)) list flight b
      ∙ ap (λ k. record (answer t (val.Exception (Timeout w.timeouts)) (state_of b w)) { next_timeout = k }) (add-one w.timeouts))
      (λ b a. answers_timeout b.of.value a (state_of b w) t (stands_at w t o.NewTimeout s b) (main_goes w goes b))

  pub acquired_made : Stands w t o.Acquired → n.list.items ≡ changed t (with_control (c.Ret (raw.Inst w.instances))) w.threads.list.items → n.flight ≡ w.threads.flight
      → Makes (entry.Op t) w (record w { threads = n; instances = w.instances + 1 })
  acquired_made s list flight =
      made (entry.Op t) w (record w { threads = n; instances = w.instances + 1 }) (λ b. record (answer t (val.Inst w.instances) (state_of b w)) { next_instance = suc w.instances })
      (λ b. with_answer (record w { instances = w.instances + 1 }) n t (raw.Inst w.instances) (val.Inst w.instances) (value_of-Inst w.instances) list flight b
      ∙ ap (λ k. record (answer t (val.Inst w.instances) (state_of b w)) { next_instance = k }) (add-one w.instances))
      (λ b a. answers_acquired b.of.value a (state_of b w) t (stands_at w t o.Acquired s b) (main_goes w goes b))

  -- ---- sleeping
  none_law : (z : ℤ) → int_le z (pos 0) ≡ true → Stands w t (o.ThreadDelay z) → (b : CodeBody) → Accepted b.of.value → Enters b.of.value (entry.Op t) (state_of b w) (answer t UnitValue (state_of b w))
  none_law (pos zero) e s b a = delay_none b.of.value a (state_of b w) t (stands_at w t (o.ThreadDelay (pos 0)) s b) (main_goes w goes b)
  none_law (pos (suc k)) e s b a = absurd (not_positive k e)
  none_law (negsuc k) e s b a = delay_less b.of.value a (state_of b w) t k (stands_at w t (o.ThreadDelay (negsuc k)) s b) (main_goes w goes b)

  pub none_made : (z : ℤ) → FitsSigned w64 z → int_le (to_z w64 (of_z w64 z)) (pos 0) ≡ true → Stands w t (o.ThreadDelay z)
      → n.list.items ≡ changed t (with_control (c.Ret raw.Unit)) w.threads.list.items → n.flight ≡ w.threads.flight → Makes (entry.Op t) w (record w { threads = n })
  none_made z fits e s list flight =
      answer_made raw.Unit (λ b. UnitValue) (λ b. value_of-Unit) list flight (none_law z (subst (λ x. int_le x (pos 0) ≡ true) (to_z-of_z fits) e) s)

  sleeps_law : (z : ℤ) → int_le z (pos 0) ≡ false → Stands w t (o.ThreadDelay z) → (b : CodeBody) → Accepted b.of.value
      → Enters b.of.value (entry.Op t) (state_of b w) (sleeps t (min (w.clock + nat_abs z) 18446744073709551615) (state_of b w))
  sleeps_law (pos zero) e s b a = absurd (none_is_no_more e)
  sleeps_law (pos (suc k)) e s b a = delay_sleeps b.of.value a (state_of b w) t k (stands_at w t (o.ThreadDelay (pos (suc k))) s b) (main_goes w goes b)
  sleeps_law (negsuc k) e s b a = absurd (less_is_no_more k e)

  pub sleep_made : (z : ℤ) (due : ℕ) (ss : Asleep) → FitsSigned w64 z → int_le (to_z w64 (of_z w64 z)) (pos 0) ≡ false → Stands w t (o.ThreadDelay z)
      → due ≡ min (w.clock + nat_abs (to_z w64 (of_z w64 z))) 18446744073709551615 → ss.list ≡ sleeper_added (record { thread = t; due = due }) w.sleepers.list
      → IsBlocked t w.threads.list.items n.list.items → n.flight ≡ w.threads.flight → Makes (entry.Op t) w (record w { threads = n; sleepers = ss })
  sleep_made z due ss fits e s is added list flight =
      let same : to_z w64 (of_z w64 z) ≡ z = to_z-of_z fits in
      let when : due ≡ min (w.clock + nat_abs z) 18446744073709551615 = is ∙ ap (λ x. min (w.clock + nat_abs x) 18446744073709551615) same in
      made (entry.Op t) w (record w { threads = n; sleepers = ss }) (λ b. sleeps t (min (w.clock + nat_abs z) 18446744073709551615) (state_of b w))
      (λ b. with_threads (record w { sleepers = ss }) n b (blocked_at t (slots_of b w.threads.list.items)) w.threads.flight.list (blocked_slots b t w.threads.list.items n.list.items list) (ap (λ f. f.list) flight)
      ∙ ap (λ xs. record (state_of b w) { threads = blocked_at t (slots_of b w.threads.list.items); sleepers = xs }) (added ∙ ap (λ d. sleeper_added (record { thread = t; due = d }) w.sleepers.list) when))
      (sleeps_law z (subst (λ x. int_le x (pos 0) ≡ false) same e) s)

  -- ---- throwing
  pub itself_made : (u : ℕ) (e : Exn) → u ≡ t → Stands w t (o.ThrowTo u e) → n.list.items ≡ changed t (with_control (c.Throw e)) w.threads.list.items → n.flight ≡ w.threads.flight
      → Makes (entry.Op t) w (record w { threads = n })
  itself_made u e is s list flight =
      made (entry.Op t) w (record w { threads = n }) (λ b. throws t e (state_of b w)) (with_throw w n t e list flight)
      (λ b a. throws_itself b.of.value a (state_of b w) t e (stands_at w t (o.ThrowTo t e) (subst (λ x. Stands w t (o.ThrowTo x e)) is s) b) (main_goes w goes b))

  pub finished_made : (u : ℕ) (e : Exn) (th : Thread) → slice_get w.threads.list.items u ≡ Some th → th.finished ≡ true → Stands w t (o.ThrowTo u e)
      → n.list.items ≡ changed t (with_control (c.Ret raw.Unit)) w.threads.list.items → n.flight ≡ w.threads.flight → Makes (entry.Op t) w (record w { threads = n })
  finished_made u e th is f s list flight =
      answer_made raw.Unit (λ b. UnitValue) (λ b. value_of-Unit) list flight
      (λ b a. throws_at_finished b.of.value a (state_of b w) t u e (slot_of b th) (stands_at w t (o.ThrowTo u e) s b) (slots_is b w.threads.list.items u th is) f (main_goes w goes b))

  pub throw_made : (u : ℕ) (e : Exn) (th : Thread) → u ≢ t → slice_get w.threads.list.items u ≡ Some th → th.finished ≡ false → Stands w t (o.ThrowTo u e)
      → (m : Threads) → m.list ≡ w.threads.list → m.flight.list ≡ w.threads.flight.list ++ record { thrower = t; target = u; exn = e } ∷ [] → IsBlocked t m.list.items n.list.items → n.flight ≡ m.flight
      → Makes (entry.Op t) w (record w { threads = n })
  throw_made u e th other is f s m same thrown list flight =
      let blocked : IsBlocked t w.threads.list.items n.list.items = subst (λ v. IsBlocked t v.items n.list.items) same list in
      made (entry.Op t) w (record w { threads = n }) (λ b. throws_at t u e (state_of b w))
      (λ b. with_threads w n b (blocked_at t (slots_of b w.threads.list.items)) (w.threads.flight.list ++ record { thrower = t; target = u; exn = e } ∷ [])
      (blocked_slots b t w.threads.list.items n.list.items blocked) (ap (λ f. f.list) flight ∙ thrown))
      (λ b a. throws_at_other b.of.value a (state_of b w) t u e (slot_of b th) (stands_at w t (o.ThrowTo u e) s b) other (slots_is b w.threads.list.items u th is) f (main_goes w goes b))
