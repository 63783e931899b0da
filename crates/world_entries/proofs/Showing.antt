-- Readers of a cell that are answered one by one.
use Rattle.std.proofs.Common.{◌≡◌, ◌≢◌, ℕ, ◌<◌, ◌≤◌, ◌+◌, true, false, List, [], ◌∷◌, ◌++◌, length, None, slice_get, slice_index_or, refl, sym, ap, ◌∙◌, subst, arith}
use Rattle.std.proofs.lemmas.List.{length-set, length_push, get_or-set_same}
use Rattle.hs_base.specs.declared.value.Value.{Value}
use Rattle.rules_waiting.specs.OneCell.{Cell, Leave, made, call, leaves_line, stands_in, readers}
use Rattle.mvar_cell.specs.Mvars.{Mvars}
use Rattle.mvar_cell.specs.Calls.{cell_at, IsCall}
use Rattle.mvar_cell.specs.Readers.{FirstReads, AreAllReaders}
use Rattle.frame_stack.specs.declared.control.Control.TheVariants as c
use Rattle.frame_stack.specs.Parts.{IsOp}
use Rattle.thread_table.specs.declared.thread.Thread.{Thread}
use Rattle.thread_table.specs.Table.{changed, with_control, IsAt}
use Rattle.thread_table.specs.Rooms.{work_room, Spends}
use Rattle.thread_table.proofs.Table.{changed_other}
use Rattle.world_entries.specs.declared.world.World.{World}
use Rattle.world_entries.specs.Reading.{Are, ReadersStand, Rest, all_answered}
use Rattle.world_entries.proofs.Copies.{are_fewer}
use Rattle.world_entries.proofs.Readers.{first_reader_stands, gone_stands, stood_before}

-- What was shown so far: whatever is still to be done to the cell and to the threads, done to all of it, is what was to be
-- done at first.
pub record ShownSo (v : Value) (m : ℕ) (first now : World) (left : List Value) : Type 0 where
  pub copies : Are v left
  pub cells : (end : Mvars) → AreAllReaders (readers (cell_at m now.cells).line) m now.cells end → AreAllReaders (readers (cell_at m first.cells).line) m first.cells end
  pub threads : all_answered v (readers (cell_at m now.cells).line) now.threads.list.items ≡ all_answered v (readers (cell_at m first.cells).line) first.threads.list.items

-- some readers were answered, from the first world on, with these copies, of which these are left
pub record Showing (m : ℕ) (first now : World) (copies left : List Value) : Type 0 where
  pub exists : m < length now.cells.cells
  pub count : length left ≡ length (readers (cell_at m now.cells).line)
  pub stand : ReadersStand m now
  pub within : length left ≤ work_room now.threads
  pub room : work_room first.threads + length left ≤ work_room now.threads + length copies
  pub shown : (v : Value) → Are v copies → ShownSo v m first now left
  pub spare : first.cells.spare ≤ now.cells.spare
  pub rest : Rest first now

rest_none : (w : World) → Rest w w
rest_none w =
    record {
      flight = refl;
      sleepers = refl;
      clock = refl;
      instances = refl;
      timeouts = refl;
      printed = refl;
      stuck = omega arith;
      ready = omega arith;
      list = omega arith;
    }

pub showing_none : (m : ℕ) (w : World) (copies : List Value) → m < length w.cells.cells → length copies ≡ length (readers (cell_at m w.cells).line) → ReadersStand m w → length copies ≤ work_room w.threads → Showing m w w copies copies
showing_none m w copies lt n stand room =
    record {
      exists = lt;
      count = n;
      stand = stand;
      within = room;
      room = omega arith;
      shown = λ v h. record { copies = h; cells = λ end k. k; threads = refl };
      spare = omega arith;
      rest = rest_none w;
    }

-- a cell once a thread has left its line
pub left_cell : (t m : ℕ) (old new : Mvars) → m < length old.cells → IsCall (Leave t) m old new [] → cell_at m new ≡ (call (Leave t) (cell_at m old)).cell
left_cell t m old new lt h =
    ap (λ (cs : List (Cell Value)). slice_index_or cs m (made None)) h.cells ∙ get_or-set_same old.cells m (call (Leave t) (cell_at m old)).cell (made None) lt

-- the next reader stands at an operation
pub next_is_at : (t m : ℕ) (w : World) (new : Mvars) → ReadersStand m w → FirstReads t m w.cells new → IsAt t (λ (th : Thread). IsOp th.stack.control) w.threads.list.items
next_is_at t m w new stand h = stand t (first_reader_stands t (readers (cell_at m new).line) (cell_at m w.cells).line h.readers)

-- one reader more
module _ (t m : ℕ) (first now next : World) (copies left fewer : List Value) (copy : Value) (h : Showing m first now copies left) (read : FirstReads t m now.cells next.cells) (took : left ≡ fewer ++ copy ∷ [])
    (list : next.threads.list.items ≡ changed t (with_control (c.Ret copy)) now.threads.list.items) where
  still_stand : ReadersStand m next
  still_stand u k =
      let line = left_cell t m now.cells next.cells h.exists read.leaves in
      let here : stands_in u (leaves_line t (cell_at m now.cells).line) ≡ true = sym (ap (λ (c : Cell Value). stands_in u c.line) line) ∙ k in
      let other : u ≢ t = λ e. let z : true ≡ false = sym here ∙ (ap (λ w. stands_in w (leaves_line t (cell_at m now.cells).line)) e ∙ gone_stands t (cell_at m now.cells).line) in cc z in
      let at = h.stand u (stood_before u t (cell_at m now.cells).line here) in
      record {
        thread = at.thread;
        is = ap (λ ths. slice_get ths u) list ∙ (changed_other now.threads.list.items t u (with_control (c.Ret copy)) other ∙ at.is);
        holds = at.holds;
      }

  shown_more : (v : Value) → Are v copies → ShownSo v m first next fewer
  shown_more v all =
      let so = h.shown v all in
      let are = are_fewer v copy fewer (subst (Are v) took so.copies) in
      record {
        copies = are.0;
        cells = λ end k. so.cells end (subst (λ ts. AreAllReaders ts m now.cells end) (sym read.readers) (next.cells, read, k));
        threads = ap (all_answered v (readers (cell_at m next.cells).line)) (list ∙ ap (λ w. changed t (with_control (c.Ret w)) now.threads.list.items) are.1)
            ∙ (sym (ap (λ ts. all_answered v ts now.threads.list.items) read.readers) ∙ so.threads);
      }

  pub showing_more : Spends 1 0 0 0 now.threads next.threads → next.threads.flight ≡ now.threads.flight → next.sleepers ≡ now.sleepers → next.clock ≡ now.clock → next.instances ≡ now.instances → next.timeouts ≡ now.timeouts → next.printed ≡ now.printed
      → now.cells.spare ≤ next.cells.spare → Showing m first next copies fewer
  showing_more spends flight sleepers clock instances timeouts printed spare =
      let size = ap length read.leaves.cells ∙ length-set now.cells.cells m (call (Leave t) (cell_at m now.cells)).cell in
      let one = ap length took ∙ length_push fewer copy in
      let n = h.count ∙ ap length read.readers in
      let exists = h.exists in
      let within = h.within in
      let room = h.room in
      let work = spends.work in
      let old_spare = h.spare in
      record {
        exists = omega (arith, size, exists);
        count = omega (arith, one, n);
        stand = still_stand;
        within = omega (arith, one, within, work);
        room = omega (arith, one, room, work);
        shown = shown_more;
        spare = omega (arith, old_spare, spare);
        rest = record {
          flight = flight ∙ h.rest.flight;
          sleepers = sleepers ∙ h.rest.sleepers;
          clock = clock ∙ h.rest.clock;
          instances = instances ∙ h.rest.instances;
          timeouts = timeouts ∙ h.rest.timeouts;
          printed = printed ∙ h.rest.printed;
          stuck = let a = h.rest.stuck in let b = spends.stuck in omega (arith, a, b);
          ready = let a = h.rest.ready in let b = spends.ready in omega (arith, a, b);
          list = let a = h.rest.list in let b = spends.threads in omega (arith, a, b);
        };
      }

-- and nobody any more
pub all_shown : (m : ℕ) (first now : World) (copies left : List Value) (end : Mvars) → Showing m first now copies left → readers (cell_at m now.cells).line ≡ [] → end.cells ≡ now.cells.cells → (v : Value) → Are v copies
    → AreAllReaders (readers (cell_at m first.cells).line) m first.cells end × (now.threads.list.items ≡ all_answered v (readers (cell_at m first.cells).line) first.threads.list.items)
all_shown m first now copies left end h none same v all =
    let so = h.shown v all in (
      so.cells end (subst (λ ts. AreAllReaders ts m now.cells end) (sym none) (none, same)),
      sym (ap (λ ts. all_answered v ts now.threads.list.items) none) ∙ so.threads,
    )

pub rest_same : (first now : World) (cs : Mvars) → Rest first now → Rest first (record now { cells = cs })
rest_same first now cs r =
    record {
      flight = r.flight;
      sleepers = r.sleepers;
      clock = r.clock;
      instances = r.instances;
      timeouts = r.timeouts;
      printed = r.printed;
      stuck = r.stuck;
      ready = r.ready;
      list = r.list;
    }
