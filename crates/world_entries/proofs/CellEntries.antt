-- The Op of a thread at an operation on a cell, from what the calls on the cells and on the threads say.
use Rattle.std.proofs.Common.{◌≡◌, ◌≢◌, ℕ, Bool, true, List, [], ◌∷◌, ◌++◌, length, Option, Some, None, slice_get, refl, sym, ap, ◌∙◌}
use Rattle.hs_base.specs.declared.value.Value.{Value}
use Rattle.hs_base.specs.declared.value.Value.TheVariants as raw
use Rattle.hs_rules.specs.declared.entry.Entry.TheVariants as entry
use Rattle.rules_meaning.specs.Values as val
use Rattle.rules_meaning.specs.Values.{V, value_of}
use Rattle.rules_typing.specs.TypingScripts.{Accepted}
use Rattle.rules_code.specs.declared.code.CodeBody.{CodeBody}
use Rattle.rules_waiting.specs.OneCell.{Call, Take, Read, Put, Try_take, Try_put, Reply, made}
use Rattle.slot_states.specs.mapping.Mapped.{map_some, map_call, map_replies}
use Rattle.hs_eval.proofs.Cases.{value_of-Cell}
use Rattle.mvar_cell.specs.Mvars.{Mvars}
use Rattle.mvar_cell.specs.Calls.{cell_at, IsCall, IsFull}
use Rattle.slot_states.specs.SlotStates.{Enters, answered, told_all, called, makes}
use Rattle.slot_states.proofs.CellsEntered.{take_entered, read_entered, put_entered, try_take_entered, try_put_entered, new_entered, new_empty_entered}
use Rattle.frame_stack.specs.declared.control.Operation.{Operation}
use Rattle.frame_stack.specs.declared.control.Operation.TheVariants as o
use Rattle.frame_stack.specs.declared.control.Control.TheVariants as c
use Rattle.frame_stack.specs.Parts.{IsOp}
use Rattle.thread_table.specs.declared.thread.Thread.{Thread}
use Rattle.thread_table.specs.declared.threads.Threads.{Threads}
use Rattle.thread_table.specs.Table.{slots_of, changed, with_control, IsAt}
use Rattle.thread_table.proofs.Table.{changed_other, slots_blocked}
use Rattle.world_entries.specs.declared.world.World.{World}
use Rattle.world_entries.specs.Worlds.{state_of, slot_cells, IsLive, Makes, SameState, Stands, Goes}
use Rattle.world_entries.proofs.Making.{stands_at, main_goes}
use Rattle.world_entries.proofs.Making as making
use Rattle.world_entries.proofs.CellsOf.{cells_more, cells_count}
use Rattle.world_entries.proofs.Readers.{putter_stands}
use Rattle.world_entries.proofs.Answering.{Elsewhere, state_is, state_called, one_answered}
use Rattle.world_entries.proofs.Standing.{line_is_at, line_is_other}

-- a world with these threads and cells
abbrev pub with_parts : World → Threads → Mvars → World
with_parts w ths cs = record w { threads = ths; cells = cs }

pub elsewhere : (w : World) (ths : Threads) (cs : Mvars) → ths.flight ≡ w.threads.flight → Elsewhere w (with_parts w ths cs)
elsewhere w ths cs e =
    record {
      flight = ap (λ f. f.list) e;
      sleepers = refl;
      clock = refl;
      instances = refl;
      timeouts = refl;
      printed = refl;
    }

-- ---- what each operation is to make

module _ (w : World) (t m : ℕ) (g : Goes w) (b : CodeBody) (accepted : Accepted b.of.value) where
  pub take_law : Stands w t (o.TakeMVar m) → Enters b.of.value (entry.Op t) (state_of b w) (called t m (Take t) (state_of b w))
  take_law s = take_entered b.of.value accepted (state_of b w) t m (stands_at w t (o.TakeMVar m) s b) (main_goes w g b)

  pub read_law : Stands w t (o.ReadMVar m) → Enters b.of.value (entry.Op t) (state_of b w) (called t m (Read t) (state_of b w))
  read_law s = read_entered b.of.value accepted (state_of b w) t m (stands_at w t (o.ReadMVar m) s b) (main_goes w g b)

  pub put_law : (v : Value) → Stands w t (o.PutMVar m v) → Enters b.of.value (entry.Op t) (state_of b w) (called t m (Put t (value_of v)) (state_of b w))
  put_law v s = put_entered b.of.value accepted (state_of b w) t m (value_of v) (stands_at w t (o.PutMVar m v) s b) (main_goes w g b)

  pub try_take_law : Stands w t (o.TryTakeMVar m) → Enters b.of.value (entry.Op t) (state_of b w) (called t m (Try_take t) (state_of b w))
  try_take_law s = try_take_entered b.of.value accepted (state_of b w) t m (stands_at w t (o.TryTakeMVar m) s b) (main_goes w g b)

  pub try_put_law : (v : Value) → Stands w t (o.TryPutMVar m v) → Enters b.of.value (entry.Op t) (state_of b w) (called t m (Try_put t (value_of v)) (state_of b w))
  try_put_law v s = try_put_entered b.of.value accepted (state_of b w) t m (value_of v) (stands_at w t (o.TryPutMVar m v) s b) (main_goes w g b)

-- A call on cell m, and whom it answers answered: from a world that stands for the same as the old one.
pub call_made : (old base new : World) (t m : ℕ) (q : Call Value) (rs : List (Reply Value)) → SameState old base → IsCall q m base.cells new.cells rs
    → ((b : CodeBody) → slots_of b new.threads.list.items ≡ told_all t m (map_replies value_of rs) (slots_of b base.threads.list.items)) → Elsewhere base new
    → ((b : CodeBody) → Accepted b.of.value → Enters b.of.value (entry.Op t) (state_of b old) (called t m (map_call value_of q) (state_of b old)))
    → Makes (entry.Op t) old new
call_made old base new t m q rs same h e r law =
    making.made (entry.Op t) old new (λ b. called t m (map_call value_of q) (state_of b old))
    (λ b. state_called b base new t m q rs h (e b) r ∙ ap (called t m (map_call value_of q)) (same b)) law

-- the same from the old world
pub call_makes : (old : World) (ths : Threads) (cs : Mvars) (t m : ℕ) (q : Call Value) (rs : List (Reply Value)) → IsCall q m old.cells cs rs
    → ((b : CodeBody) → slots_of b ths.list.items ≡ told_all t m (map_replies value_of rs) (slots_of b old.threads.list.items)) → ths.flight ≡ old.threads.flight
    → ((b : CodeBody) → Accepted b.of.value → Enters b.of.value (entry.Op t) (state_of b old) (called t m (map_call value_of q) (state_of b old)))
    → Makes (entry.Op t) old (with_parts old ths cs)
call_makes old ths cs t m q rs h e f law = call_made old old (with_parts old ths cs) t m q rs (λ b. refl) h e (elsewhere old ths cs f) law

-- nobody is answered
pub told_none : (b : CodeBody) (t m : ℕ) (old ths : List Thread) → ((l : Bool) × (ths ≡ changed t (λ (th : Thread). record th { blocked = true; listed = l }) old)) → slots_of b ths ≡ told_all t m [] (slots_of b old)
told_none b t m old ths h = ap (slots_of b) h.1 ∙ slots_blocked b old t h.0

-- ---- a new cell

fresh_same : (old : World) (ths : Threads) (cs : Mvars) (t n : ℕ) (first : Option Value) → n ≡ length old.cells.cells → cs.cells ≡ old.cells.cells ++ made first ∷ [] → ths.list.items ≡ changed t (with_control (c.Ret (raw.Cell n))) old.threads.list.items
    → ths.flight ≡ old.threads.flight → (b : CodeBody) → state_of b (with_parts old ths cs) ≡ makes t (map_some value_of first) (state_of b old)
fresh_same old ths cs t n first number cells list flight b =
    state_is b old (with_parts old ths cs) (answered t (val.Cell (length (slot_cells old.cells.cells))) (slots_of b old.threads.list.items)) (slot_cells old.cells.cells ++ made (map_some value_of first) ∷ [])
    (ap (slots_of b) list ∙ one_answered b old.threads.list.items t (raw.Cell n) (val.Cell (length (slot_cells old.cells.cells))) (value_of-Cell n ∙ ap val.Cell (number ∙ sym (cells_count old.cells.cells))))
    (ap slot_cells cells ∙ cells_more old.cells.cells (made first))
    (elsewhere old ths cs flight)

module _ (old : World) (ths : Threads) (cs : Mvars) (t n : ℕ) (number : n ≡ length old.cells.cells) (list : ths.list.items ≡ changed t (with_control (c.Ret (raw.Cell n))) old.threads.list.items) (flight : ths.flight ≡ old.threads.flight) (g : Goes old) where
  pub fresh_makes : (v : Value) → cs.cells ≡ old.cells.cells ++ made (Some v) ∷ [] → Stands old t (o.NewMVar v) → Makes (entry.Op t) old (with_parts old ths cs)
  fresh_makes v cells s =
      making.made (entry.Op t) old (with_parts old ths cs) (λ b. makes t (Some (value_of v)) (state_of b old)) (fresh_same old ths cs t n (Some v) number cells list flight)
      (λ b accepted. new_entered b.of.value accepted (state_of b old) t (value_of v) (stands_at old t (o.NewMVar v) s b) (main_goes old g b))

  pub fresh_empty_makes : cs.cells ≡ old.cells.cells ++ made None ∷ [] → Stands old t o.NewEmptyMVar → Makes (entry.Op t) old (with_parts old ths cs)
  fresh_empty_makes cells s =
      making.made (entry.Op t) old (with_parts old ths cs) (λ b. makes t None (state_of b old)) (fresh_same old ths cs t n None number cells list flight)
      (λ b accepted. new_empty_entered b.of.value accepted (state_of b old) t (stands_at old t o.NewEmptyMVar s b) (main_goes old g b))

-- ---- who is answered stands at an operation

-- also once another was answered
pub at_changed : (ths ths' : List Thread) (t u : ℕ) (f : Thread → Thread) → ths' ≡ changed t f ths → u ≢ t → IsAt u (λ (th : Thread). IsOp th.stack.control) ths → IsAt u (λ (th : Thread). IsOp th.stack.control) ths'
at_changed ths ths' t u f e n h = record { thread = h.thread; is = ap (λ xs. slice_get xs u) e ∙ (changed_other ths t u f n ∙ h.is); holds = h.holds }

-- the first that waits to put, once the thread that takes was answered
pub putter_is_at : (old : World) → IsLive old → (t m u : ℕ) (q : Operation) → Stands old t q → (v next : Value) → IsFull v (Some (u, next)) (cell_at m old.cells) → (ths : List Thread) (f : Thread → Thread) → ths ≡ changed t f old.threads.list.items
    → IsAt u (λ (th : Thread). IsOp th.stack.control) ths
putter_is_at old live t m u q s v next full ths f e =
    let here = putter_stands u next (cell_at m old.cells).line full.putter in
    at_changed old.threads.list.items ths t u f e (line_is_other old live t q s u m here) (line_is_at old live u m here)

-- the answer of what was held: the content that was lent is the one that was taken
pub held_is : (lent held answer : Value) (content : Option Value) → Some lent ≡ content → content ≡ Some held → value_of answer ≡ val.Just (value_of lent) → value_of answer ≡ val.Just (value_of held)
held_is lent held answer content e f h = let same : lent ≡ held = let z : Some lent ≡ Some held = e ∙ f in cc z in h ∙ ap (λ x. val.Just (value_of x)) same
