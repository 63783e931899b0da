-- What an entry asks of a world's state with slots is there in the world.
use Rattle.std.proofs.Common.{◌≡◌, ◌≢◌, ◌≤◌, ◌<◌, ℕ, List, [], ◌∷◌, Bool, true, false, Option, Some, None, refl, sym, ap, ◌∙◌, subst, inl, inr, slice_get, is_some}
use Rattle.std.proofs.Math.Logic.{∥∥₁_elim}
use Rattle.hs_base.specs.declared.exn.Exn.{Exn}
use Rattle.hs_base.specs.declared.mask.Mask.TheVariants.{Unmasked}
use Rattle.hs_rules.specs.declared.entry.Entry.{Entry}
use Rattle.hs_rules.specs.declared.entry.Entry.TheVariants as entry
use Rattle.rules_expansion.specs.trees.Programs.{Fn, script_of}
use Rattle.rules_meaning.specs.Values.{V}
use Rattle.rules_code.specs.declared.code.CodeBody.{CodeBody}
use Rattle.rules_code.specs.CodeTrees.{code_trees}
use Rattle.rules_waiting.specs.Waiting.{Flying, flying_to, first_thrown, first_awake, earliest}
use Rattle.exn_flight.specs.Asleep.{due_of}
use Rattle.slot_laws.specs.SlotRules.{SlotPart, ret, throw, SlotFrame, SlotTerm, at, locals}
use Rattle.slot_states.specs.SlotStates.{SlotThread, SlotState, StandsAt, StandsBare}
use Rattle.slot_states.specs.Resting as rest
use Rattle.slot_states.specs.Resting.{AllRest, WaitsOpen}
use Rattle.slot_states.specs.demands.Demands.{Asks}
use Rattle.local_steps.specs.Machine.{funs_of}
use Rattle.frame_stack.specs.declared.control.Control.{Control}
use Rattle.frame_stack.specs.declared.control.Control.TheVariants as c
use Rattle.frame_stack.specs.Parts.{Stacked, part_of, term_of}
use Rattle.frame_stack.proofs.Progress.{no_frames}
use Rattle.thread_table.specs.declared.thread.Thread.{Thread}
use Rattle.thread_table.specs.declared.kinds.EntryKind.TheVariants as kind
use Rattle.thread_table.specs.Kinds.{IsEnd, IsBare, IsKind, Own, Hears}
use Rattle.thread_table.specs.Listing.{is_hit, is_receptive}
use Rattle.thread_table.specs.Table.{slot_of}
use Rattle.thread_table.proofs.Slots.{slot_back, receptive_same, hit_is}
use Rattle.thread_table.proofs.Table.{slots_is}
use Rattle.world_entries.specs.declared.world.World.{World}
use Rattle.world_entries.specs.Worlds.{state_of, Goes, SameState}
use Rattle.world_entries.proofs.Waiters.{op_of_part}
use Rattle.run_course.specs.declared.history.acts.NextEntry.TheVariants as act
use Rattle.run_course.specs.declared.history.acts.Next.{Next}
use Rattle.run_course.specs.declared.history.acts.Next.TheVariants as next
use Rattle.run_course.specs.history.Records.{Can, IsNextOf}
use Rattle.trace_checker.specs.player.Entering.{IsFree, is_strand}

-- ---- controls of parts

ret_end : (b : CodeBody) (k : Control) (v : V) → part_of b k ≡ ret v → IsEnd k
ret_end b (c.Doing i vs) v e = absurd (cc e)
ret_end b (c.Ret w) v e = tt
ret_end b (c.Throw x) v e = tt
ret_end b (c.Op o) v e = absurd (cc e)

throw_end : (b : CodeBody) (k : Control) (x : Exn) → part_of b k ≡ throw x → IsEnd k
throw_end b (c.Doing i vs) x e = absurd (cc e)
throw_end b (c.Ret w) x e = tt
throw_end b (c.Throw y) x e = tt
throw_end b (c.Op o) x e = absurd (cc e)

hit_there : (o : Option (ℕ × Exn)) (w : ℕ × Exn) → o ≡ Some w → is_some o ≡ true
hit_there None w e = absurd (cc e)
hit_there (Some z) w e = refl

no_hit : (fs : List Flying) → fs ≡ [] → (w : ℕ × Exn) → first_thrown fs ≡ Some w → ⊥
no_hit [] none w e = absurd (cc e)
no_hit (f ∷ fs) none w e = absurd (cc none)

module _ (b : CodeBody) (w : World) where
  abbrev ds : List Fn
  ds = script_of b.of.value

  abbrev x : SlotState
  x = state_of b w

  -- ---- entries of one thread
  pub op_asked : (t : ℕ) → Asks ds (entry.Op t) x → IsKind kind.Op t w.threads
  op_asked t (p, s) =
      let k = slot_back b w.threads.list.items t s.thread s.is in
      record {
        thread = k.0;
        is = k.1;
        unfinished = ap (λ (z : SlotThread). z.finished) k.2 ∙ s.unfinished;
        free = ap (λ (z : SlotThread). z.blocked) k.2 ∙ s.free;
        holds = op_of_part b k.0.stack.control p (ap (λ (z : SlotThread). z.term.part) k.2 ∙ s.part);
      }

  bare_asked : (t : ℕ) (p : SlotPart) → ((k : Control) → part_of b k ≡ p → IsEnd k) → StandsBare x t p → IsKind kind.Finish t w.threads
  bare_asked t p end s =
      let k = slot_back b w.threads.list.items t s.thread s.is in
      let term : term_of b k.0.stack ≡ at p [] = ap (λ (z : SlotThread). z.term) k.2 ∙ s.term in
      record {
        thread = k.0;
        is = k.1;
        unfinished = ap (λ (z : SlotThread). z.finished) k.2 ∙ s.unfinished;
        free = ap (λ (z : SlotThread). z.blocked) k.2 ∙ s.free;
        holds = (end k.0.stack.control (ap (λ (z : SlotTerm). z.part) term), no_frames b k.0.stack.frames (ap (λ (z : SlotTerm). z.frames) term));
      }

  pub finish_asked : (t : ℕ) → Asks ds (entry.Finish t) x → IsKind kind.Finish t w.threads
  finish_asked t (inl (v, s)) = bare_asked t (ret v) (λ k. ret_end b k v) s
  finish_asked t (inr (e, s)) = bare_asked t (throw e) (λ k. throw_end b k e) s

  pub receive_asked : (t : ℕ) → Asks ds (entry.Receive t) x → IsKind kind.Receive t w.threads
  receive_asked t (h, is, unfinished, receptive, (u, e, hit)) =
      let k = slot_back b w.threads.list.items t h is in
      record {
        thread = k.0;
        is = k.1;
        unfinished = ap (λ (z : SlotThread). z.finished) k.2 ∙ unfinished;
        receptive = sym (receptive_same b k.0) ∙ (ap rest.is_receptive k.2 ∙ receptive);
        hit = hit_there (first_thrown (flying_to t w.threads.flight.list)) (u, e) hit;
      }

  pub local_asked : (t k : ℕ) → Asks ds (entry.Local t k) x → IsFree t w.threads
  local_asked t n (h, is, unfinished, free, some, goes) =
      let k = slot_back b w.threads.list.items t h is in
      (k.0, k.1, ap (λ (z : SlotThread). z.finished) k.2 ∙ unfinished, ap (λ (z : SlotThread). z.blocked) k.2 ∙ free)

  -- the local rules that are asked apply to the thread's stack
  pub rules_asked : (t k : ℕ) (th : Thread) → slice_get w.threads.list.items t ≡ Some th → Asks ds (entry.Local t k) x → (st : SlotTerm) × (locals (code_trees ds) Unmasked k (term_of b th.stack) ≡ Some st)
  rules_asked t n th there (h, is, unfinished, free, some, (st, goes)) =
      let z : Some (slot_of b th) ≡ Some h = sym (slots_is b w.threads.list.items t th there) ∙ is in
      let same : slot_of b th ≡ h = cc z in
      (st, ap (λ (y : SlotThread). locals (code_trees ds) Unmasked n y.term) same ∙ goes)

  -- so they are asked in vain where none apply
  pub stuck_asked : (t k : ℕ) (th : Thread) → slice_get w.threads.list.items t ≡ Some th → locals (funs_of b) Unmasked k (term_of b th.stack) ≡ None → Asks ds (entry.Local t k) x → ⊥
  stuck_asked t k th is none a =
      ∥∥₁_elim b.stands (λ y z. absurd y) (λ s.
      let r = rules_asked t k th is a in
      let z : ◌≡◌ {A = Option SlotTerm} (Some r.0) None = sym r.1 ∙ (ap (λ z. locals z Unmasked k (term_of b th.stack)) (sym s.functions) ∙ none) in cc z)

  -- ---- Stranded
  not_blocked : (t : ℕ) (th : Thread) → slice_get w.threads.list.items t ≡ Some th → th.finished ≡ false → th.blocked ≡ false → AllRest x → ⊥
  not_blocked t th is going free quiet =
      let z : true ≡ false = sym (quiet.blocked t (slot_of b th) (slots_is b w.threads.list.items t th is) going) ∙ free in cc z

  own_works : (P : Stacked → Type 0) (t : ℕ) → Own P t w.threads → AllRest x → ⊥
  own_works P t own quiet = not_blocked t own.thread own.is own.unfinished own.free quiet

  hears_works : (t : ℕ) → Hears t w.threads → AllRest x → ⊥
  hears_works t h quiet =
      let f = hit_is t w.threads.flight.list h.hit in
      no_hit (flying_to t w.threads.flight.list)
      (quiet.unheard t (slot_of b h.thread) (slots_is b w.threads.list.items t h.thread h.is) h.unfinished (receptive_same b h.thread ∙ h.receptive)) f.0 f.1

  -- where a Stranded is asked for it is next
  pub strand_asked : (n : Next) → IsNextOf n w → Asks ds entry.Stranded x → is_strand n ≡ true
  strand_asked (next.Over v) h a = absurd h
  strand_asked (next.Act (act.Op t)) h (quiet, awake, some) = absurd (own_works _ t h.1 quiet)
  strand_asked (next.Act (act.Finish t)) h (quiet, awake, some) = absurd (own_works _ t h.1 quiet)
  strand_asked (next.Act (act.Local t)) h (quiet, awake, some) = absurd (own_works _ t h.1 quiet)
  strand_asked (next.Act (act.Receive t)) h (quiet, awake, some) = absurd (hears_works t h.1 quiet)
  strand_asked (next.Act (act.Wake t)) h (quiet, awake, some) = let z : ◌≡◌ {A = Option ℕ} None (Some t) = sym quiet.asleep ∙ h.1 in absurd (cc z)
  strand_asked (next.Act act.Strand) h a = refl
  strand_asked next.Goes h (quiet, awake, some) =
      let g = h.2.1 b in
      let z : true ≡ false = sym (quiet.blocked h.2.0 g.thread g.is g.unfinished) ∙ g.free in absurd (cc z)
  strand_asked (next.Sleeps due) h (quiet, awake, some) = let z : ◌≡◌ {A = Option ℕ} None (Some due) = ap earliest (sym awake) ∙ h.2 in absurd (cc z)
  strand_asked next.Stuck h (quiet, awake, some) = absurd (h.3 b some.0 some.1)

-- and where it is next it can be done
pub strand_can : (w : World) (n : Next) → IsNextOf n w → is_strand n ≡ true → Goes w × Can act.Strand w
strand_can w (next.Act act.Strand) h e = h
strand_can w _ h e = absurd (cc e)

-- where what is asked was, in the same state, it is
pub not_then : (b : CodeBody) (e : Entry) (old new : World) → SameState old new → (Asks (script_of b.of.value) e (state_of b new) → ⊥) → Asks (script_of b.of.value) e (state_of b old) → ⊥
not_then b e old new same never a = never (subst (Asks (script_of b.of.value) e) (sym (same b)) a)
