-- Which threads of a live world stand where, and that the machine of cells may be called.
use Rattle.std.proofs.Common.{◌≡◌, ◌≢◌, ℕ, ◌<◌, true, false, List, length, Some, slice_get, sym, ap, ◌∙◌, subst}
use Rattle.std.proofs.Props.{props}
use Rattle.std.proofs.Math.Bool.{Bool-set}
use Rattle.std.proofs.Math.Logic.{∥∥₁_elim, ∥∥₁_map}
use Rattle.hs_base.specs.declared.value.Value.{Value}
use Rattle.rules_meaning.specs.Values.{value_of}
use Rattle.rules_code.specs.declared.code.CodeBody.{CodeBody}
use Rattle.hs_rules.specs.declared.entry.Entry.{Entry}
use Rattle.rules_expansion.specs.trees.Programs.{script_of}
use Rattle.rules_waiting.specs.OneCell.{stands_in}
use Rattle.mvar_cell.specs.Calls.{cell_at, StandsNowhere}
use Rattle.slot_laws.specs.SlotRules.{performs}
use Rattle.slot_states.specs.SlotStates.{SlotThread}
use Rattle.slot_states.specs.Resting.{WaitsAt, takes, reads, puts}
use Rattle.slot_states.proofs.CellReading.{waits_below, try_take_below, try_put_below}
use Rattle.slot_states.proofs.CellThreads.{line_is_of_threads, free_is_nowhere}
use Rattle.frame_stack.specs.declared.control.Operation.{Operation}
use Rattle.frame_stack.specs.declared.control.Operation.TheVariants as o
use Rattle.frame_stack.specs.declared.control.Control.{Control}
use Rattle.frame_stack.specs.declared.control.Control.TheVariants as c
use Rattle.frame_stack.specs.Parts.{IsOp, part_of, op_of}
use Rattle.thread_table.specs.declared.thread.Thread.{Thread}
use Rattle.thread_table.specs.Table.{slot_of, IsAt}
use Rattle.thread_table.proofs.Table.{slots_is}
use Rattle.thread_table.proofs.Slots.{slot_back}
use Rattle.world_entries.specs.declared.world.World.{World}
use Rattle.world_entries.specs.Worlds.{state_of, Live, IsLive, Stands}
use Rattle.world_entries.specs.Reading.{ReadersStand}
use Rattle.world_entries.proofs.Making.{stands_at, op_shown}
use Rattle.world_entries.proofs.CellsOf.{cells_count, stands_same, stands_nowhere}

-- ---- a thread by what it stands for

-- who waits at a cell stands at an operation
pub waits_op : (b : CodeBody) (m : ℕ) (k : Control) → WaitsAt m (part_of b k) → IsOp k
waits_op b m (c.Doing i vs) h = elim h [ ]
waits_op b m (c.Ret v) h = elim h [ ]
waits_op b m (c.Throw e) h = elim h [ ]
waits_op b m (c.Op q) h = tt

-- ---- who stands in a line

pub record InLineOf (w : World) (u : ℕ) : Type 0 where
  pub thread : Thread
  pub is : slice_get w.threads.list.items u ≡ Some thread
  pub blocked : thread.blocked ≡ true
  pub op : IsOp thread.stack.control

module _ (w : World) where
  line_of_live : (u m : ℕ) → stands_in u (cell_at m w.cells).line ≡ true → ((b : CodeBody) × (es : List Entry) × Live b es w) → InLineOf w u
  line_of_live u m h (b, es, l) =
      let f = line_is_of_threads b.of.value es l.state l.run (state_of b w) l.represents u m (stands_same u m w.cells ∙ h) in
      let th = slot_back b w.threads.list.items u f.0 f.1 in
      record {
        thread = th.0;
        is = th.1;
        blocked = ap (λ (x : SlotThread). x.blocked) th.2 ∙ f.2;
        op = waits_op b m th.0.stack.control (subst (λ (x : SlotThread). WaitsAt m x.term.part) (sym th.2) f.4);
      }

  module _ (live : IsLive w) where
    -- it is there and stands at an operation
    pub line_is_at : (u m : ℕ) → stands_in u (cell_at m w.cells).line ≡ true → IsAt u (λ (th : Thread). IsOp th.stack.control) w.threads.list.items
    line_is_at u m h = op_shown w.threads.list.items u (∥∥₁_map live (λ l. let k = line_of_live u m h l in record { thread = k.thread; is = k.is; holds = k.op }))

    pub readers_are_at : (m : ℕ) → ReadersStand m w
    readers_are_at m u h = line_is_at u m h

    module _ (t : ℕ) (q : Operation) (s : Stands w t q) where
      -- a thread that isn't blocked is another
      pub line_is_other : (u m : ℕ) → stands_in u (cell_at m w.cells).line ≡ true → u ≢ t
      line_is_other u m h e =
          ∥∥₁_elim live (λ x y. absurd x) (λ l.
          let k = line_of_live u m h l in
          let same : k.thread ≡ s.thread = let z : Some k.thread ≡ Some s.thread = sym k.is ∙ (ap (slice_get w.threads.list.items) e ∙ s.is) in cc z in
          let z : true ≡ false = sym k.blocked ∙ (ap (λ (x : Thread). x.blocked) same ∙ s.free) in
          cc z)

      -- and stands in no line
      pub free_nowhere : StandsNowhere t w.cells
      free_nowhere =
          ∥∥₁_elim live (hlevel (Bool-set)) (λ l.
          stands_nowhere t w.cells (free_is_nowhere l.0.of.value (state_of l.0 w) l.2.state l.2.represents t (slot_of l.0 s.thread) (slots_is l.0 w.threads.list.items t s.thread s.is) s.free))

      -- the cell of an operation that waits there is there
      waits_below_at : (m : ℕ) → ((b : CodeBody) → WaitsAt m (performs (op_of b q))) → m < length w.cells.cells
      waits_below_at m waits =
          ∥∥₁_elim live (hlevel props) (λ l.
          let at = stands_at w t q s l.0 in
          subst (λ n. m < n) (cells_count w.cells.cells)
          (waits_below (script_of l.0.of.value) (state_of l.0 w) l.2.state l.2.represents t m at.thread at.is (subst (WaitsAt m) (sym at.part) (waits l.0))))

    pub take_cell_is : (t m : ℕ) → Stands w t (o.TakeMVar m) → m < length w.cells.cells
    take_cell_is t m s = waits_below_at t (o.TakeMVar m) s m (λ b. takes)

    pub read_cell_is : (t m : ℕ) → Stands w t (o.ReadMVar m) → m < length w.cells.cells
    read_cell_is t m s = waits_below_at t (o.ReadMVar m) s m (λ b. reads)

    pub put_cell_is : (t m : ℕ) (v : Value) → Stands w t (o.PutMVar m v) → m < length w.cells.cells
    put_cell_is t m v s = waits_below_at t (o.PutMVar m v) s m (λ b. puts)

    pub try_take_cell_is : (t m : ℕ) → Stands w t (o.TryTakeMVar m) → m < length w.cells.cells
    try_take_cell_is t m s =
        ∥∥₁_elim live (hlevel props) (λ l.
        subst (λ n. m < n) (cells_count w.cells.cells)
        (try_take_below (script_of l.0.of.value) (state_of l.0 w) l.2.state l.2.represents t m (stands_at w t (o.TryTakeMVar m) s l.0)))

    pub try_put_cell_is : (t m : ℕ) (v : Value) → Stands w t (o.TryPutMVar m v) → m < length w.cells.cells
    try_put_cell_is t m v s =
        ∥∥₁_elim live (hlevel props) (λ l.
        subst (λ n. m < n) (cells_count w.cells.cells)
        (try_put_below (script_of l.0.of.value) (state_of l.0 w) l.2.state l.2.represents t m (value_of v) (stands_at w t (o.TryPutMVar m v) s l.0)))
