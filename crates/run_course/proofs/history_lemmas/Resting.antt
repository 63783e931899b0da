-- What is left where no thread has anything of its own to do and nobody is due.
use Rattle.std.proofs.Common.{Vec, Global, ◌≡◌, ℕ, Bool, true, false, cond, not, ◌&&◌, Some, None, refl, sym, ap, ◌∙◌, subst, slice_get}
use Rattle.rules_code.specs.declared.code.CodeBody.{CodeBody}
use Rattle.rules_waiting.specs.Waiting.{first_awake}
use Rattle.slot_states.specs.SlotStates.{SlotThread}
use Rattle.slot_states.specs.Resting as rest
use Rattle.slot_states.specs.Resting.{IsDoing, WaitsOpen, AllRest, NobodyActs}
use Rattle.slot_states.proofs.Settled.{all_rest}
use Rattle.thread_table.specs.declared.thread.Thread.{Thread}
use Rattle.thread_table.specs.declared.threads.Threads.{Threads}
use Rattle.thread_table.specs.Listing.{is_doing, is_receptive, is_hit, wanted, waits_open, NobodyWants}
use Rattle.thread_table.specs.Table.{slot_of, slots_of, unlisted}
use Rattle.thread_table.proofs.Slots.{slot_back, waits_are_open, nobody_hears}
use Rattle.thread_table.proofs.Table.{slots_is, thread_alike}
use Rattle.world_entries.specs.declared.world.World.{World}
use Rattle.world_entries.specs.Worlds.{state_of, Goes, IsAtRest, SameState}
use Rattle.run_course.specs.history.Records.{SomeGoes}
use Rattle.run_course.proofs.history_lemmas.Controls.{doing_part, part_doing}

-- ---- who wants nothing
not_own : (f x y : Bool) (r : Bool) → f ≡ false → x ≡ false → cond f false (cond (not x && not y) true r) ≡ false → y ≡ true
not_own true x y r g e n = absurd (cc g)
not_own false true y r g e n = absurd (cc e)
not_own false false true r g e n = refl
not_own false false false r g e n = absurd (cc n)

module _ (w : World) (none : NobodyWants w.threads.list.items w.threads.flight.list) (b : CodeBody) where
  -- a thread that hasn't finished and isn't blocked is to do an action
  own : (t : ℕ) (h : SlotThread) → slice_get (state_of b w).threads t ≡ Some h → h.finished ≡ false → h.blocked ≡ false → IsDoing h.term.part
  own t h is going free =
      let s = slot_back b w.threads.list.items t h is in
      let th = s.0 in
      let d : is_doing th.stack.control ≡ true =
      not_own th.finished th.blocked (is_doing th.stack.control) (cond (is_receptive th) (is_hit t w.threads.flight.list) false)
      (ap (λ (z : SlotThread). z.finished) s.2 ∙ going) (ap (λ (z : SlotThread). z.blocked) s.2 ∙ free)
      (ap (λ o. wanted t o w.threads.flight.list) (sym s.1) ∙ none t) in
      subst (λ (z : SlotThread). IsDoing z.term.part) s.2 (doing_part b th.stack.control d)

  pub nobody_acts : first_awake w.clock w.sleepers.list ≡ None → NobodyActs (state_of b w)
  nobody_acts awake = record { own = own; unheard = nobody_hears b w.threads.list.items w.threads.flight.list none; asleep = awake }

-- ---- who goes
pub some_goes : (w : World) (t : ℕ) (th : Thread) → slice_get w.threads.list.items t ≡ Some th → th.finished ≡ false → th.blocked ≡ false → is_doing th.stack.control ≡ true → SomeGoes w
some_goes w t th is going free does = (t, λ b. record { thread = slot_of b th; is = slots_is b w.threads.list.items t th is; unfinished = going; free = free; does = doing_part b th.stack.control does })

none_goes : (w : World) → ((t : ℕ) (th : Thread) → slice_get w.threads.list.items t ≡ Some th → (th.finished ≡ false) × (th.blocked ≡ false) × (is_doing th.stack.control ≡ true) → ⊥) → (b : CodeBody) (t : ℕ) → rest.Goes (state_of b w) t → ⊥
none_goes w none b t g =
    let th = slot_back b w.threads.list.items t g.thread g.is in
    none t th.0 th.1 (
      ap (λ (z : SlotThread). z.finished) th.2 ∙ g.unfinished,
      ap (λ (z : SlotThread). z.blocked) th.2 ∙ g.free,
      part_doing b th.0.stack.control (subst (λ (z : SlotThread). IsDoing z.term.part) (sym th.2) g.does),
    )

-- where nobody acts and nobody goes all rest
pub at_rest : (w : World) → NobodyWants w.threads.list.items w.threads.flight.list → first_awake w.clock w.sleepers.list ≡ None
    → ((t : ℕ) (th : Thread) → slice_get w.threads.list.items t ≡ Some th → (th.finished ≡ false) × (th.blocked ≡ false) × (is_doing th.stack.control ≡ true) → ⊥) → IsAtRest w
at_rest w none awake stopped b = all_rest (state_of b w) (nobody_acts w none b awake) (none_goes w stopped b)

-- ---- sleepers

-- ---- worlds that are the same but for lists of what is to be done
abbrev pub with_threads : World → Threads → World
with_threads w ts = record w { threads = ts }

pub same_state : (w : World) (ts : Threads) → ((b : CodeBody) → slots_of b ts.list.items ≡ slots_of b w.threads.list.items) → ts.flight.list ≡ w.threads.flight.list → SameState w (with_threads w ts)
same_state w ts slots flight b = λ i. record {
  threads = slots b i;
  cells = (state_of b w).cells;
  flight = flight i;
  sleepers = w.sleepers.list;
  clock = w.clock;
  next_instance = w.instances;
  next_timeout = w.timeouts;
  printed = w.printed;
}

pub goes_alike : (w : World) (ts : Threads) → ts.list ≡ w.threads.list → Goes w → Goes (with_threads w ts)
goes_alike w ts e g = record { main = g.main; is = ap (λ (l : Vec Thread Global). slice_get l.items 0) e ∙ g.is; unfinished = g.unfinished }

-- the same but for who is listed as one who may be stranded
pub goes_unlisted : (w : World) (ts : Threads) → unlisted ts.list.items ≡ unlisted w.threads.list.items → Goes w → Goes (with_threads w ts)
goes_unlisted w ts e g =
    let k = thread_alike w.threads.list.items ts.list.items 0 g.main (sym e) g.is in
    record { main = k.0; is = k.1; unfinished = ap (λ (z : Thread). z.finished) k.2 ∙ g.unfinished }

pub rest_alike : (old new : World) → SameState old new → IsAtRest old → IsAtRest new
rest_alike old new same quiet b = subst AllRest (sym (same b)) (quiet b)

-- where nobody waits open nobody does with slots
pub none_waits_open : (b : CodeBody) (w : World) → ((t : ℕ) → waits_open (slice_get w.threads.list.items t) ≡ false) → (t : ℕ) → ¬ WaitsOpen (state_of b w) t
none_waits_open b w none t h = let z : true ≡ false = sym (waits_are_open b w.threads.list.items (state_of b w) t refl h) ∙ none t in cc z
