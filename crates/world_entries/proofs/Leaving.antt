-- A thread that receives an exception waits for nothing any more: where it waited, and what is left there.
use Rattle.std.proofs.Common.{◌≡◌, ◌≢◌, ◌<◌, ℕ, List, [], ◌∷◌, Bool, true, false, length, Some, refl, sym, ap, ◌∙◌, subst, slice_get, slice_set}
use Rattle.std.proofs.Math.Bool.{Bool-set}
use Rattle.std.proofs.Math.Bridge.{le_prop}
use Rattle.std.proofs.Math.Logic.{∥∥₁_elim}
use Rattle.hs_base.specs.declared.exn.Exn.{Exn}
use Rattle.hs_rules.specs.declared.entry.Entry.{Entry}
use Rattle.hs_rules.specs.State.{State}
use Rattle.hs_rules.specs.Runs.{IsRun}
use Rattle.hs_rules.specs.Terms.{Operation, Calls, Performs}
use Rattle.hs_laws.specs.BracketPhases.{Blocks}
use Rattle.hs_laws.proofs.Expanded.{standing_of}
use Rattle.hs_progress.specs.TypedStates.{has}
use Rattle.rules_expansion.specs.trees.Programs.{Fn, script_of}
use Rattle.rules_meaning.specs.Values as val
use Rattle.rules_meaning.specs.Values.{V}
use Rattle.rules_expansion.specs.declared.primitive.Primitive.{Primitive}
use Rattle.rules_expansion.specs.declared.primitive.Primitive.TheVariants.{TakeMVar, PutMVar, ReadMVar, ThreadDelay, ThrowTo}
use Rattle.rules_code.specs.declared.code.CodeBody.{CodeBody}
use Rattle.rules_waiting.specs.OneCell.{Leave, call, stands_in}
use Rattle.rules_waiting.specs.Waiting.{Reason, Taking, Reading, Putting, Throwing, Sleeping, flying_to, first_thrown, withdrawn, still_asleep}
use Rattle.slot_laws.specs.SlotRules.{SlotPart, performs, calls}
use Rattle.slot_laws.specs.Standing.{PartStands}
use Rattle.slot_states.specs.SlotStates.{SlotThread, SlotState, left_lines, Represents}
use Rattle.slot_states.specs.Resting.{WaitsAt, takes, reads, puts, InLine, NotThrowing, NotAsleep}
use Rattle.slot_states.proofs.Reading.{blocked_at, call_is}
use Rattle.slot_states.proofs.Waits as waits
use Rattle.slot_states.proofs.Waits.{first_throws}
use Rattle.slot_states.proofs.CellThreads.{thread_is_in_line}
use Rattle.mvar_cell.specs.Mvars.{Mvars}
use Rattle.mvar_cell.specs.Calls.{cell_at}
use Rattle.frame_stack.specs.declared.control.Operation.TheVariants as o
use Rattle.frame_stack.specs.declared.control.Control.{Control}
use Rattle.frame_stack.specs.declared.control.Control.TheVariants as c
use Rattle.frame_stack.specs.Parts.{part_of}
use Rattle.thread_table.specs.declared.thread.Thread.{Thread}
use Rattle.thread_table.specs.Table.{slot_of, slots_of}
use Rattle.thread_table.proofs.Table.{slots_is}
use Rattle.world_entries.specs.declared.world.World.{World}
use Rattle.world_entries.specs.Worlds.{state_of, slot_cells, Live, IsLive, LeavesLine, LeavesFrom, MayLeave}
use Rattle.world_entries.proofs.CellsOf.{cells_count, stands_same, leave_same}

-- ---- operations at which a thread waits
abbrev may_wait : SlotPart → Bool
may_wait (performs (calls TakeMVar vs)) = true
may_wait (performs (calls ReadMVar vs)) = true
may_wait (performs (calls PutMVar vs)) = true
may_wait (performs (calls ThrowTo vs)) = true
may_wait (performs (calls ThreadDelay vs)) = true
may_wait _ = false

blocks_by : (r : Reason V) (op : Operation) → Blocks r op → (w : Primitive) × (vs : List V) × (op ≡ Calls w vs) × (may_wait (performs (calls w vs)) ≡ true)
blocks_by (Taking m) op h = (TakeMVar, val.Cell m ∷ [], h, refl)
blocks_by (Reading m) op h = (ReadMVar, val.Cell m ∷ [], h, refl)
blocks_by (Putting m a) op h = (PutMVar, val.Cell m ∷ a ∷ [], h, refl)
blocks_by (Throwing u e) op h = (ThrowTo, val.Thread u ∷ val.Exception e ∷ [], h, refl)
blocks_by (Sleeping due) op h = (ThreadDelay, val.Int h.0 ∷ [], h.1, refl)

module _ (ds : List Fn) (es : List Entry) (s : State) (run : IsRun ds es s) (x : SlotState) (r : Represents ds x s) where
  blocked_waits : (t : ℕ) (h : SlotThread) → slice_get x.threads t ≡ Some h → h.blocked ≡ true → may_wait h.term.part ≡ true
  blocked_waits t h is b =
      let k = blocked_at ds x s r (standing_of ds es s run) t h is b in
      let a = blocks_by k.reason k.op k.blocks in
      ap may_wait (call_is (has r.stacks.store) ds (subst (λ q. PartStands (has r.stacks.store) ds h.term.part (Performs q) (r.stacks.store.sorts t)) a.2 k.part)) ∙ a.3

  -- nobody throws at itself
  thrower_apart : (t u : ℕ) (e : Exn) → first_thrown (flying_to t x.flight) ≡ Some (u, e) → u ≢ t
  thrower_apart t u e f =
      let stands = standing_of ds es s run in
      stands.apart u t e (first_throws t u e s.blocked stands.once (ap (λ fs. first_thrown (flying_to t fs)) (sym r.agrees.flight) ∙ f))

pub apart_live : (w : World) → IsLive w → (t u : ℕ) (e : Exn) → first_thrown (flying_to t w.threads.flight.list) ≡ Some (u, e) → u ≢ t
apart_live w live t u e f q =
    ∥∥₁_elim live (λ x y. absurd x) (λ p. thrower_apart (script_of p.0.of.value) p.1 p.2.state p.2.run (state_of p.0 w) p.2.represents t u e f q)

-- ---- who is blocked at a cell stands in its line
module _ (w : World) (b : CodeBody) (es : List Entry) (l : Live b es w) where
  in_line : (t m : ℕ) (th : Thread) → slice_get w.threads.list.items t ≡ Some th → th.blocked ≡ true → WaitsAt m (part_of b th.stack.control) → InLine t m (state_of b w)
  in_line t m th is k a = thread_is_in_line b.of.value es l.state l.run (state_of b w) l.represents t m (slot_of b th) (slots_is b w.threads.list.items t th is) k a

pub line_live : (w : World) → IsLive w → (t m : ℕ) (th : Thread) → slice_get w.threads.list.items t ≡ Some th → th.blocked ≡ true → ((b : CodeBody) → WaitsAt m (part_of b th.stack.control)) → (m < length w.cells.cells) × (stands_in t (cell_at m w.cells).line ≡ true)
line_live w live t m th is k a = (
  ∥∥₁_elim live (hlevel le_prop) (λ p. subst (λ n. m < n) (cells_count w.cells.cells) (in_line w p.0 p.1 p.2 t m th is k (a p.0)).exists),
  ∥∥₁_elim live (hlevel Bool-set) (λ p. sym (stands_same t m w.cells) ∙ (in_line w p.0 p.1 p.2 t m th is k (a p.0)).stands),
)

-- what leaving asks, also where other threads and the flight have changed
module _ (w v : World) (live : IsLive w) (t : ℕ) (th : Thread) (is : slice_get w.threads.list.items t ≡ Some th) (cells : v.cells ≡ w.cells) where
  at_cell : (m : ℕ) → th.blocked ≡ true → ((b : CodeBody) → WaitsAt m (part_of b th.stack.control)) → (m < length v.cells.cells) × (stands_in t (cell_at m v.cells).line ≡ true)
  at_cell m k a = subst (λ (z : Mvars). (m < length z.cells) × (stands_in t (cell_at m z).line ≡ true)) (sym cells) (line_live w live t m th is k a)

  may_by : (q : Bool) (k : Control) → th.blocked ≡ q → th.stack.control ≡ k → MayLeave t q k v
  may_by true (c.Op (o.TakeMVar m)) g e = at_cell m g (λ b. subst (λ z. WaitsAt m (part_of b z)) (sym e) takes)
  may_by true (c.Op (o.ReadMVar m)) g e = at_cell m g (λ b. subst (λ z. WaitsAt m (part_of b z)) (sym e) reads)
  may_by true (c.Op (o.PutMVar m a)) g e = at_cell m g (λ b. subst (λ z. WaitsAt m (part_of b z)) (sym e) puts)
  may_by _ _ g e = tt

  pub may_leave : MayLeave t th.blocked th.stack.control v
  may_leave = may_by th.blocked th.stack.control refl refl

-- ---- where it waits, also where another's throw is over
module _ (w v : World) (b : CodeBody) (es : List Entry) (l : Live b es w) (t u : ℕ) (th : Thread) (is : slice_get w.threads.list.items t ≡ Some th) (cells : v.cells ≡ w.cells) (flight : v.threads.flight.list ≡ withdrawn u w.threads.flight.list)
    (sleepers : v.sleepers.list ≡ w.sleepers.list) where
  here : slice_get (slots_of b w.threads.list.items) t ≡ Some (slot_of b th)
  here = slots_is b w.threads.list.items t th is

  no_line : left_lines t (slot_cells w.cells.cells) ≡ slot_cells w.cells.cells → left_lines t (slot_cells v.cells.cells) ≡ slot_cells v.cells.cells
  no_line h = subst (λ (z : Mvars). left_lines t (slot_cells z.cells) ≡ slot_cells z.cells) (sym cells) h

  silent : NotThrowing t w.threads.flight.list → withdrawn t v.threads.flight.list ≡ v.threads.flight.list
  silent h = subst (λ fs. withdrawn t fs ≡ fs) (sym flight) (h.1 u)

  awake : NotAsleep t w.sleepers.list → still_asleep t v.sleepers.list ≡ v.sleepers.list
  awake h = subst (NotAsleep t) (sym sleepers) h

  line_left : (m : ℕ) → InLine t m (state_of b w) → LeavesLine t m v
  line_left m h = record {
    exists = subst (λ (z : Mvars). m < length z.cells) (sym cells) (subst (λ n. m < n) (cells_count w.cells.cells) h.exists);
    stands = subst (λ (z : Mvars). stands_in t (cell_at m z).line ≡ true) (sym cells) (sym (stands_same t m w.cells) ∙ h.stands);
    only = subst (λ (z : Mvars). left_lines t (slot_cells z.cells) ≡ slot_cells (slice_set z.cells m (call (Leave t) (cell_at m z)).cell)) (sym cells) (h.only ∙ leave_same t m w.cells);
    silent = silent h.silent;
    awake = awake h.awake;
  }

  from_by : (q : Bool) (k : Control) → th.blocked ≡ q → th.stack.control ≡ k → LeavesFrom t q k v
  from_by false k g e = let f = waits.free_waits (script_of b.of.value) (state_of b w) l.state l.represents t (slot_of b th) here g in (no_line f.0, silent f.1, awake f.2)
  from_by true (c.Op (o.TakeMVar m)) g e = line_left m (in_line w b es l t m th is g (subst (λ z. WaitsAt m (part_of b z)) (sym e) takes))
  from_by true (c.Op (o.ReadMVar m)) g e = line_left m (in_line w b es l t m th is g (subst (λ z. WaitsAt m (part_of b z)) (sym e) reads))
  from_by true (c.Op (o.PutMVar m a)) g e = line_left m (in_line w b es l t m th is g (subst (λ z. WaitsAt m (part_of b z)) (sym e) puts))
  from_by true (c.Op (o.ThrowTo n x)) g e = let f = waits.thrower_waits (script_of b.of.value) (state_of b w) l.state l.represents (standing_of (script_of b.of.value) es l.state l.run) t (slot_of b th) here g n x (ap (part_of b) e) in (no_line f.0, awake f.1)
  from_by true (c.Op (o.ThreadDelay n)) g e = let f = waits.sleeper_waits (script_of b.of.value) (state_of b w) l.state l.represents (standing_of (script_of b.of.value) es l.state l.run) t (slot_of b th) here g n (ap (part_of b) e) in (no_line f.0, silent f.1)
  from_by true k g e = let z : false ≡ true = sym (ap (λ y. may_wait (part_of b y)) e) ∙ blocked_waits (script_of b.of.value) es l.state l.run (state_of b w) l.represents t (slot_of b th) here g in absurd (cc z)

  pub leaves_from : LeavesFrom t th.blocked th.stack.control v
  leaves_from = from_by th.blocked th.stack.control refl refl
