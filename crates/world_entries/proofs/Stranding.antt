-- A world after those who wait at a cell and can be interrupted were stranded, one after another.
use Rattle.std.proofs.Common.{◌≡◌, ◌≤◌, ◌<◌, ◌↔◌, ℕ, ◌==◌, List, [], ◌∷◌, ◌++◌, length, Bool, true, false, ◌&&◌, Option, Some, None, option_map, refl, sym, ap, ◌∙◌, subst, arith, inl, inr, ⊎_elim, slice_get, slice_set}
use Rattle.std.proofs.Math.Bool.{Bool-set}
use Rattle.std.proofs.Math.Bridge.{le_prop}
use Rattle.std.proofs.Math.Logic.{∥∥₁_elim}
use Rattle.std.specs.Prelude.{Contains}
use Rattle.std.proofs.lemmas.Bool.{and_parts}
use Rattle.hs_base.specs.declared.exn.Exn.TheVariants.{BlockedIndefinitely}
use Rattle.hs_base.specs.declared.mask.Mask.TheVariants.{Unmasked}
use Rattle.hs_rules.specs.declared.entry.Entry.{Entry}
use Rattle.hs_rules.specs.declared.entry.Entry.TheVariants as entry
use Rattle.hs_rules.specs.Entries.{is_interruptible}
use Rattle.hs_laws.proofs.Lists.{cond_false, equal_or, item_same, StandsIn}
use Rattle.rules_expansion.specs.declared.primitive.Primitive.TheVariants.{TakeMVar, PutMVar, ReadMVar}
use Rattle.rules_code.specs.declared.code.CodeBody.{CodeBody}
use Rattle.rules_waiting.specs.OneCell.{Leave, stands_in, call}
use Rattle.slot_laws.specs.SlotRules.{SlotPart, throw, performs, calls, mask_from}
use Rattle.slot_states.specs.SlotStates.{SlotThread, set_thread, resumed_by, resumed, all_resumed, left_lines, all_left, strands, Enters}
use Rattle.slot_states.specs.SlotStates as slots
use Rattle.slot_states.specs.Resting.{InLine, WaitsOpen}
use Rattle.slot_states.proofs.Following.{changed_other}
use Rattle.slot_states.proofs.Places.{is_among, stands_among, contains_stands, stands_contains, some_stands, all_left_count}
use Rattle.slot_states.proofs.CellThreads.{thread_is_in_line}
use Rattle.slot_states.proofs.StrandedAlike.{strand_entered, resumed_other}
use Rattle.local_steps.specs.Machine.{frames_of}
use Rattle.local_steps.proofs.Codes.{masks_inside}
use Rattle.exn_flight.specs.Flights.{InFlight}
use Rattle.exn_flight.specs.Asleep.{Asleep}
use Rattle.mvar_cell.specs.Mvars.{Mvars}
use Rattle.mvar_cell.specs.Calls.{cell_at, IsCall}
use Rattle.frame_stack.specs.declared.control.Operation.TheVariants as o
use Rattle.frame_stack.specs.declared.control.Control.{Control}
use Rattle.frame_stack.specs.declared.control.Control.TheVariants as c
use Rattle.frame_stack.specs.Parts.{part_of}
use Rattle.thread_table.specs.declared.thread.Thread.{Thread}
use Rattle.thread_table.specs.Listing.{is_at_cell, WaitsAtCell, waits_open, mask_of}
use Rattle.thread_table.specs.Rooms.{work_room}
use Rattle.thread_table.specs.Table.{slot_of, slots_of, IsAt}
use Rattle.thread_table.proofs.Table.{slots_at, slots_is}
use Rattle.world_entries.specs.declared.world.World.{World}
use Rattle.world_entries.specs.Worlds.{state_of, slot_cells, Live, IsLive, Makes, Goes, HasRoom, IsAtRest, SomeWaitOpen}
use Rattle.world_entries.proofs.Making.{main_goes}
use Rattle.world_entries.proofs.Entered.{same_state, SameCounts, made_from}
use Rattle.thread_table.proofs.Slots.{waits_part, open_waits, waits_are_open}
use Rattle.world_entries.proofs.CellsOf.{cells_count, stands_same, leave_same}
use Rattle.world_entries.proofs.Lined.{stands_still, NotElsewhere, not_elsewhere, still_alone, leaves_alone, left_last}

-- ---- who may be stranded, among threads with slots
abbrev is_at_line : SlotPart → Bool
is_at_line (performs (calls TakeMVar vs)) = true
is_at_line (performs (calls ReadMVar vs)) = true
is_at_line (performs (calls PutMVar vs)) = true
is_at_line _ = false

abbrev is_open : Option SlotThread → Bool
is_open None = false
is_open (Some th) = th.blocked && is_at_line th.term.part && is_interruptible (mask_from Unmasked th.term.frames)

same_line : (b : CodeBody) (k : Control) → is_at_line (part_of b k) ≡ is_at_cell k
same_line b (c.Op (o.TakeMVar m)) = refl
same_line b (c.Op (o.ReadMVar m)) = refl
same_line b (c.Op (o.PutMVar m a)) = refl
same_line b _ = refl

same_open : (b : CodeBody) (q : Option Thread) → is_open (option_map (slot_of b) q) ≡ waits_open q
same_open b None = refl
same_open b (Some th) =
    ap (λ z. th.blocked && z && is_interruptible (mask_from Unmasked (frames_of b th.stack.frames))) (same_line b th.stack.control)
    ∙ ap (λ m. th.blocked && is_at_cell th.stack.control && is_interruptible m) (sym (masks_inside b Unmasked th.stack.frames))

open_at : (b : CodeBody) (ths : List Thread) (t : ℕ) → is_open (slice_get (slots_of b ths) t) ≡ waits_open (slice_get ths t)
open_at b ths t = ap is_open (slots_at b ths t) ∙ same_open b (slice_get ths t)

-- ---- some threads with slots get a part

-- who threw isn't blocked any more
abbrev IsFree : Option SlotThread → Type 0
IsFree None = Unit {0}
IsFree (Some th) = th.blocked ≡ false

free_closed : (q : Option SlotThread) → IsFree q → is_open q ≡ false
free_closed None h = refl
free_closed (Some th) h = ap (λ z. z && is_at_line th.term.part && is_interruptible (mask_from Unmasked th.term.frames)) h

free_changed : (p : SlotPart) (ths : List SlotThread) (u t : ℕ) (q : Option SlotThread) → slice_get ths u ≡ q → u ≡ t → IsFree (slice_get (set_thread u (resumed_by p) q ths) t)
free_changed p ths u t None is e = subst IsFree (sym (ap (slice_get ths) (sym e) ∙ is)) tt
free_changed p ths u t (Some th) is e = subst IsFree (sym (ap (slice_get (slice_set ths u (resumed_by p th))) (sym e) ∙ item_same ths u th (resumed_by p th) is)) refl

free_still : (ts : List ℕ) (p : SlotPart) (ths : List SlotThread) (t : ℕ) → IsFree (slice_get ths t) → IsFree (slice_get (all_resumed ts p ths) t)
free_still [] p ths t h = h
free_still (u ∷ us) p ths t h =
    free_still us p (resumed u p ths) t
    (⊎_elim (λ e. free_changed p ths u t (slice_get ths u) refl e.1) (λ e. subst IsFree (sym (changed_other ths u t (resumed_by p) (λ q. e.1 (sym q)))) h) (equal_or u t))

resumed_free : (ts : List ℕ) (p : SlotPart) (ths : List SlotThread) (t : ℕ) → is_among t ts ≡ true → IsFree (slice_get (all_resumed ts p ths) t)
resumed_free [] p ths t a = absurd (cc a)
resumed_free (u ∷ us) p ths t a =
    ⊎_elim
    (λ e. free_still us p (resumed u p ths) t (free_changed p ths u t (slice_get ths u) refl e.1))
    (λ e. resumed_free us p (resumed u p ths) t (sym (cond_false (u == t) true (is_among t us) e.0) ∙ a))
    (equal_or u t)

resumed_last : (ts : List ℕ) (t : ℕ) (p : SlotPart) (ths : List SlotThread) → all_resumed (ts ++ t ∷ []) p ths ≡ resumed t p (all_resumed ts p ths)
resumed_last [] t p ths = refl
resumed_last (u ∷ ts) t p ths = resumed_last ts t p (resumed u p ths)

-- ---- the loop
-- these are stranded so far, and no other
pub record Stranding (ts : List ℕ) (old now : World) : Type 0 where
  pub slots : (b : CodeBody) → slots_of b now.threads.list.items ≡ all_resumed ts (throw BlockedIndefinitely) (slots_of b old.threads.list.items)
  pub each : (u : ℕ) → StandsIn u ts → waits_open (slice_get old.threads.list.items u) ≡ true
  pub cells : (b : CodeBody) (es : List Entry) → Live b es old → slot_cells now.cells.cells ≡ all_left ts (slot_cells old.cells.cells)
  pub flight : now.threads.flight ≡ old.threads.flight
  pub sleepers : now.sleepers ≡ old.sleepers
  pub counts : SameCounts old now
  pub room : length now.threads.stuck.items ≤ work_room now.threads

pub stranding_first : (w : World) → HasRoom w → Stranding [] w w
stranding_first w room = record {
  slots = λ b. refl;
  each = λ u h. absurd h;
  cells = λ b es l. refl;
  flight = refl;
  sleepers = refl;
  counts = record { clock = refl; instances = refl; timeouts = refl; printed = refl };
  room = let k = room.threads.work in omega (arith, k);
}

module _ (ts : List ℕ) (old now : World) (g : Stranding ts old now) where
  -- who is stranded isn't to be stranded again
  closed : (b : CodeBody) (u : ℕ) → is_among u ts ≡ true → waits_open (slice_get now.threads.list.items u) ≡ false
  closed b u a =
      sym (open_at b now.threads.list.items u)
      ∙ (ap (λ z. is_open (slice_get z u)) (g.slots b) ∙ free_closed (slice_get (all_resumed ts (throw BlockedIndefinitely) (slots_of b old.threads.list.items)) u) (resumed_free ts (throw BlockedIndefinitely) (slots_of b old.threads.list.items) u a))

  -- and nothing has changed of the others
  others : (b : CodeBody) (u : ℕ) → is_among u ts ≡ false → slice_get (slots_of b now.threads.list.items) u ≡ slice_get (slots_of b old.threads.list.items) u
  others b u a = ap (λ z. slice_get z u) (g.slots b) ∙ resumed_other ts (throw BlockedIndefinitely) (slots_of b old.threads.list.items) u a

  still_open : (b : CodeBody) (u : ℕ) → is_among u ts ≡ false → waits_open (slice_get now.threads.list.items u) ≡ waits_open (slice_get old.threads.list.items u)
  still_open b u a = sym (open_at b now.threads.list.items u) ∙ (ap is_open (others b u a) ∙ open_at b old.threads.list.items u)

  module _ (t : ℕ) (waits : waits_open (slice_get now.threads.list.items t) ≡ true) where
    not_yet : (b : CodeBody) → is_among t ts ≡ false
    not_yet b = by (is_among t ts) refl
      where
        by : (q : Bool) → is_among t ts ≡ q → is_among t ts ≡ false
        by false e = e
        by true e = let z : true ≡ false = sym waits ∙ closed b t e in absurd (cc z)

    -- it stands in the line of its cell
    module _ (m : ℕ) (at : IsAt t (λ (th : Thread). WaitsAtCell m th.stack.control) now.threads.list.items) (b : CodeBody) (es : List Entry) (l : Live b es old) where
      was_in_line : InLine t m (state_of b old)
      was_in_line =
          thread_is_in_line b.of.value es l.state l.run (state_of b old) l.represents t m (slot_of b at.thread)
          (sym (others b t (not_yet b)) ∙ slots_is b now.threads.list.items t at.thread at.is)
          (and_parts at.thread.blocked (is_at_cell at.thread.stack.control) (and_parts (at.thread.blocked && is_at_cell at.thread.stack.control) (is_interruptible (mask_of at.thread)) (ap waits_open (sym at.is) ∙ waits)).0).0
          (waits_part b m at.thread.stack.control at.holds)

      now_below : m < length now.cells.cells
      now_below = subst (λ n. m < n) (sym (all_left_count ts (slot_cells old.cells.cells)) ∙ (ap length (sym (g.cells b es l)) ∙ cells_count now.cells.cells)) was_in_line.exists

      now_stands : stands_in t (cell_at m now.cells).line ≡ true
      now_stands =
          sym (stands_same t m now.cells)
          ∙ (ap (λ cs. stands_in t (slots.cell_at m cs).line) (g.cells b es l) ∙ stands_still ts t m (slot_cells old.cells.cells) (not_yet b) was_in_line.stands)

      leaves_now : left_lines t (slot_cells now.cells.cells) ≡ slot_cells (slice_set now.cells.cells m (call (Leave t) (cell_at m now.cells)).cell)
      leaves_now =
          leaves_alone t m (slot_cells now.cells.cells)
          (subst (NotElsewhere t m) (sym (g.cells b es l)) (still_alone ts t m (slot_cells old.cells.cells) (not_elsewhere t m (slot_cells old.cells.cells) (call (Leave t) (slots.cell_at m (slot_cells old.cells.cells))).cell was_in_line.only)))
          ∙ leave_same t m now.cells

    pub next_below : IsLive old → (m : ℕ) → IsAt t (λ (th : Thread). WaitsAtCell m th.stack.control) now.threads.list.items → m < length now.cells.cells
    next_below live m at = ∥∥₁_elim live (hlevel le_prop) (λ p. now_below m at p.0 p.1 p.2)

    pub next_stands : IsLive old → (m : ℕ) → IsAt t (λ (th : Thread). WaitsAtCell m th.stack.control) now.threads.list.items → stands_in t (cell_at m now.cells).line ≡ true
    next_stands live m at = ∥∥₁_elim live (hlevel Bool-set) (λ p. now_stands m at p.0 p.1 p.2)

    was_open : IsLive old → waits_open (slice_get old.threads.list.items t) ≡ true
    was_open live = ∥∥₁_elim live (hlevel Bool-set) (λ p. sym (still_open p.0 t (not_yet p.0)) ∙ waits)

    one_of : IsLive old → (us : List ℕ) → ((u : ℕ) → StandsIn u us → waits_open (slice_get old.threads.list.items u) ≡ true) → (u : ℕ) → StandsIn u (us ++ t ∷ []) → waits_open (slice_get old.threads.list.items u) ≡ true
    one_of live [] h u (inl e) = ap (λ z. waits_open (slice_get old.threads.list.items z)) (sym e) ∙ was_open live
    one_of live [] h u (inr k) = absurd k
    one_of live (v ∷ us) h u (inl e) = h u (inl e)
    one_of live (v ∷ us) h u (inr k) = one_of live us (λ w i. h w (inr i)) u k

    pub stranding_next : (new : World) → IsLive old → (m : ℕ) → IsAt t (λ (th : Thread). WaitsAtCell m th.stack.control) now.threads.list.items
        → ((b : CodeBody) → slots_of b new.threads.list.items ≡ resumed t (throw BlockedIndefinitely) (slots_of b now.threads.list.items)) → new.threads.flight ≡ now.threads.flight → length new.threads.stuck.items ≤ work_room new.threads
        → IsCall (Leave t) m now.cells new.cells [] → new.sleepers ≡ now.sleepers → SameCounts now new
        → Stranding (ts ++ t ∷ []) old new
    stranding_next new live m at threw flight room left sleepers counts = record {
      slots = λ b. threw b ∙ (ap (resumed t (throw BlockedIndefinitely)) (g.slots b) ∙ sym (resumed_last ts t (throw BlockedIndefinitely) (slots_of b old.threads.list.items)));
      each = one_of live ts g.each;
      cells = λ b es l. ap slot_cells left.cells ∙ (sym (leaves_now m at b es l) ∙ (ap (left_lines t) (g.cells b es l) ∙ sym (left_last ts t (slot_cells old.cells.cells))));
      flight = flight ∙ g.flight;
      sleepers = sleepers ∙ g.sleepers;
      counts = record { clock = counts.clock ∙ g.counts.clock; instances = counts.instances ∙ g.counts.instances; timeouts = counts.timeouts ∙ g.counts.timeouts; printed = counts.printed ∙ g.counts.printed };
      room = room;
    }

  -- where nobody is left, all are stranded
  module _ (none : (t : ℕ) → waits_open (slice_get now.threads.list.items t) ≡ false) (b : CodeBody) where
    all_among : (u : ℕ) → waits_open (slice_get old.threads.list.items u) ≡ true → is_among u ts ≡ true
    all_among u h = by (is_among u ts) refl
      where
        by : (q : Bool) → is_among u ts ≡ q → is_among u ts ≡ true
        by true e = e
        by false e = let z : true ≡ false = sym h ∙ (sym (still_open b u e) ∙ none u) in absurd (cc z)

    these : (u : ℕ) → Contains ts u ↔ WaitsOpen (state_of b old) u
    these u = (λ h. open_waits b old.threads.list.items (state_of b old) u refl (g.each u (contains_stands ts u h)), λ h. stands_contains ts u (stands_among u ts (all_among u (waits_are_open b old.threads.list.items (state_of b old) u refl h))))

  pub strand_makes : (new : World) → Goes old → IsAtRest old → old.sleepers.list ≡ [] → SomeWaitOpen old
      → ((t : ℕ) → waits_open (slice_get now.threads.list.items t) ≡ false) → ((b : CodeBody) → slots_of b new.threads.list.items ≡ slots_of b now.threads.list.items) → new.threads.flight ≡ now.threads.flight
      → new.cells ≡ now.cells → new.sleepers ≡ now.sleepers → SameCounts now new → Makes entry.Stranded old new
  strand_makes new goes rest asleep some none slots flight cells sleepers counts =
      made_from entry.Stranded old new (λ b accepted stands es s run r.
      let first = some_stands some.0 ts (stands_among some.0 ts (all_among none b some.0 some.1)) in (
        strands ts (state_of b old),
        same_state (state_of b new) (strands ts (state_of b old))
            (slots b ∙ g.slots b)
            (ap (λ (z : Mvars). slot_cells z.cells) cells ∙ g.cells b es (record { accepted = accepted; code = stands; state = s; run = run; represents = r }))
            (ap (λ (z : InFlight). z.list) (flight ∙ g.flight))
            (ap (λ (z : Asleep). z.list) (sleepers ∙ g.sleepers))
            (counts.clock ∙ g.counts.clock) (counts.instances ∙ g.counts.instances) (counts.timeouts ∙ g.counts.timeouts) (counts.printed ∙ g.counts.printed),
        subst (λ us. Enters b.of.value entry.Stranded (state_of b old) (strands us (state_of b old))) (sym first.2)
            (strand_entered b.of.value accepted (state_of b old) first.0 first.1 (rest b) asleep (subst (λ us. (u : ℕ) → Contains us u ↔ WaitsOpen (state_of b old) u) first.2 (these none b)) (main_goes old goes b)),
      ))
