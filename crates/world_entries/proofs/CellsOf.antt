-- What the cells of a world stand for, and what a call on one of them makes of that.
use Rattle.std.proofs.Common.{◌≡◌, ℕ, zero, suc, ◌==◌, true, false, cond, List, [], ◌∷◌, ◌++◌, length, None, slice_set, slice_index_or, refl, sym, ap, ◌∙◌, option_map, slice_get}
use Rattle.plain_laws.proofs.Booleans.{both_false}
use Rattle.hs_base.specs.declared.value.Value.{Value}
use Rattle.rules_meaning.specs.Values.{V, value_of}
use Rattle.rules_waiting.specs.OneCell.{Place, Cell, Call, Leave, After, Reply, made, call, stands_in}
use Rattle.slot_states.specs.mapping.Mapped.{map_line, map_cell, map_call, map_replies, map_after}
use Rattle.slot_states.proofs.mapping_lemmas.Maps.{commutes}
use Rattle.mvar_cell.specs.Mvars.{Mvars}
use Rattle.mvar_cell.specs.Calls as mvar
use Rattle.mvar_cell.specs.Calls.{IsCall, stands_among, StandsNowhere}
use Rattle.slot_states.specs.SlotStates.{cell_at}
use Rattle.world_entries.specs.Worlds.{slot_cells}

-- ---- cells by number

at_number : (m : ℕ) (cs : List (Cell Value)) → cell_at m (slot_cells cs) ≡ map_cell value_of (slice_index_or cs m (made None))
at_number m [] = refl
at_number zero (c ∷ cs) = refl
at_number (suc m) (c ∷ cs) = at_number m cs

pub cell_stands_for : (m : ℕ) (cs : Mvars) → cell_at m (slot_cells cs.cells) ≡ map_cell value_of (mvar.cell_at m cs)
cell_stands_for m cs = at_number m cs.cells

pub cells_at : (cs : List (Cell Value)) (m : ℕ) → slice_get (slot_cells cs) m ≡ option_map (map_cell value_of) (slice_get cs m)
cells_at [] m = refl
cells_at (x ∷ cs) zero = refl
cells_at (x ∷ cs) (suc m) = cells_at cs m

pub cells_set : (cs : List (Cell Value)) (m : ℕ) (c : Cell Value) → slot_cells (slice_set cs m c) ≡ slice_set (slot_cells cs) m (map_cell value_of c)
cells_set [] m c = refl
cells_set (x ∷ cs) zero c = refl
cells_set (x ∷ cs) (suc m) c = ap (λ ds. map_cell value_of x ∷ ds) (cells_set cs m c)

pub cells_more : (cs : List (Cell Value)) (c : Cell Value) → slot_cells (cs ++ c ∷ []) ≡ slot_cells cs ++ map_cell value_of c ∷ []
cells_more [] c = refl
cells_more (x ∷ cs) c = ap (λ ds. map_cell value_of x ∷ ds) (cells_more cs c)

pub cells_count : (cs : List (Cell Value)) → length (slot_cells cs) ≡ length cs
cells_count [] = refl
cells_count (x ∷ cs) = ap suc (cells_count cs)

-- ---- a call on one of them

call_stands_for : (q : Call Value) (m : ℕ) (cs : Mvars) → call (map_call value_of q) (cell_at m (slot_cells cs.cells)) ≡ map_after value_of (call q (mvar.cell_at m cs))
call_stands_for q m cs = ap (call (map_call value_of q)) (cell_stands_for m cs) ∙ commutes value_of q (mvar.cell_at m cs)

-- a thread leaves the line of one of them
pub leave_same : (t m : ℕ) (cs : Mvars) → slice_set (slot_cells cs.cells) m (call (Leave t) (cell_at m (slot_cells cs.cells))).cell ≡ slot_cells (slice_set cs.cells m (call (Leave t) (mvar.cell_at m cs)).cell)
leave_same t m cs = ap (λ (a : After V). slice_set (slot_cells cs.cells) m a.cell) (call_stands_for (Leave t) m cs) ∙ sym (cells_set cs.cells m (call (Leave t) (mvar.cell_at m cs)).cell)

pub cells_called : (q : Call Value) (m : ℕ) (old new : Mvars) (rs : List (Reply Value)) → IsCall q m old new rs → slot_cells new.cells ≡ slice_set (slot_cells old.cells) m (call (map_call value_of q) (cell_at m (slot_cells old.cells))).cell
cells_called q m old new rs h =
    ap slot_cells h.cells
    ∙ (cells_set old.cells m (call q (mvar.cell_at m old)).cell
    ∙ sym (ap (λ (a : After V). slice_set (slot_cells old.cells) m a.cell) (call_stands_for q m old)))

pub replies_called : (q : Call Value) (m : ℕ) (old new : Mvars) (rs : List (Reply Value)) → IsCall q m old new rs → (call (map_call value_of q) (cell_at m (slot_cells old.cells))).replies ≡ map_replies value_of rs
replies_called q m old new rs h = ap (λ (a : After V). a.replies) (call_stands_for q m old) ∙ ap (map_replies value_of) h.answers

-- ---- who stands in a line

line_stands : (t : ℕ) (ps : List (Place Value)) → stands_in t (map_line value_of ps) ≡ stands_in t ps
line_stands t [] = refl
line_stands t (p ∷ ps) = ap (cond (p.thread == t) true) (line_stands t ps)

pub stands_same : (t m : ℕ) (cs : Mvars) → stands_in t (cell_at m (slot_cells cs.cells)).line ≡ stands_in t (mvar.cell_at m cs).line
stands_same t m cs = ap (λ (c : Cell V). stands_in t c.line) (cell_stands_for m cs) ∙ line_stands t (mvar.cell_at m cs).line

among_none : (t : ℕ) (cs : List (Cell Value)) → ((m : ℕ) → stands_in t (cell_at m (slot_cells cs)).line ≡ false) → stands_among t cs ≡ false
among_none t [] h = refl
among_none t (c ∷ cs) h = ap (λ b. cond b true (stands_among t cs)) (sym (line_stands t c.line) ∙ h zero) ∙ among_none t cs (λ m. h (suc m))

-- who stands in no line of what the cells stand for stands in none of theirs
pub stands_nowhere : (t : ℕ) (cs : Mvars) → ((m : ℕ) → stands_in t (cell_at m (slot_cells cs.cells)).line ≡ false) → StandsNowhere t cs
stands_nowhere t cs h = among_none t cs.cells h

-- and the other way round, in the code's cells
pub among_none_at : (t m : ℕ) (cs : List (Cell Value)) → stands_among t cs ≡ false → stands_in t (slice_index_or cs m (made None)).line ≡ false
among_none_at t m [] h = refl
among_none_at t zero (c ∷ cs) h = (both_false (stands_in t c.line) (stands_among t cs) h).0
among_none_at t (suc m) (c ∷ cs) h = among_none_at t m cs (both_false (stands_in t c.line) (stands_among t cs) h).1

-- one cell changed to another in whose line the thread doesn't stand
pub among_none_set : (t m : ℕ) (cs : List (Cell Value)) (c : Cell Value) → stands_among t cs ≡ false → stands_in t c.line ≡ false → stands_among t (slice_set cs m c) ≡ false
among_none_set t m [] c h k = refl
among_none_set t zero (x ∷ cs) c h k = ap (λ b. cond b true (stands_among t cs)) k ∙ (both_false (stands_in t x.line) (stands_among t cs) h).1
among_none_set t (suc m) (x ∷ cs) c h k =
    let each = both_false (stands_in t x.line) (stands_among t cs) h in
    ap (λ b. cond b true (stands_among t (slice_set cs m c))) each.0 ∙ among_none_set t m cs c each.1 k
