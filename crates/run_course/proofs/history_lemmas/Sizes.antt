-- How much a world has of what is limited, and how much it has after an entry.
use Rattle.std.proofs.Common.{◌≡◌, ◌≤◌, ◌<◌, ◌+◌, ℕ, zero, suc, List, [], ◌∷◌, ◌++◌, length, Bool, true, false, cond, Some, refl, sym, ap, ◌∙◌, arith, slice_get, slice_set}
use Rattle.hs_base.specs.declared.exn.Exn.{Exn}
use Rattle.hs_base.specs.declared.mask.Mask.TheVariants.{Unmasked, Masked}
use Rattle.hs_base.specs.Masks.{join_of}
use Rattle.hs_rules.specs.declared.entry.Entry.{Entry}
use Rattle.hs_rules.specs.declared.entry.Entry.TheVariants as entry
use Rattle.hs_rules.specs.declared.entry.LimitKind.{LimitKind}
use Rattle.hs_rules.specs.declared.entry.LimitKind.TheVariants as limit
use Rattle.rules_expansion.specs.trees.Programs.{Fn, script_of}
use Rattle.rules_meaning.specs.Values.{V}
use Rattle.rules_meaning.specs.Values as val
use Rattle.rules_meaning.specs.CoreMeaning.{code_of}
use Rattle.rules_code.specs.declared.code.CodeBody.{CodeBody}
use Rattle.rules_code.specs.CodeTrees.{SlottedFunction}
use Rattle.hs_rules.specs.State.{State}
use Rattle.hs_rules.specs.Entries.{next, Leads}
use Rattle.hs_rules.specs.Endings as endings
use Rattle.slot_laws.specs.SlotRules.{doing, ret, throw, SlotFrame, bind_to, then_to, catch_by, mask_in, SlotTerm, at, mask_from, ret_step, throw_step, local, locals, on_term}
use Rattle.slot_states.specs.SlotStates as slots
use Rattle.slot_states.specs.SlotStates.{SlotThread, SlotState, moving, moved, moves}
use Rattle.slot_states.specs.Resting.{used, frames_in}
use Rattle.slot_states.specs.Growing.{growth, IsNoLocal}
use Rattle.slot_states.proofs.AtRest.{same_used}
use Rattle.slot_states.proofs.Following.{same_some, changed_count}
use Rattle.slot_states.proofs.Grown.{entry_grows}
use Rattle.slot_states.proofs.Moving.{local_entered}
use Rattle.local_steps.specs.declared.active.Frame.{Frame}
use Rattle.local_steps.specs.Machine.{funs_of, frame_of, frames_of}
use Rattle.frame_stack.specs.declared.control.Control.{Control}
use Rattle.frame_stack.specs.declared.control.Control.TheVariants as c
use Rattle.frame_stack.specs.Parts.{MeetsOne, part_of, term_of}
use Rattle.thread_table.specs.declared.thread.Thread.{Thread}
use Rattle.thread_table.specs.Table.{slot_of, slots_of, frames_over}
use Rattle.thread_table.proofs.Slots.{frames_same}
use Rattle.thread_table.proofs.Table.{slots_is, slots_count}
use Rattle.world_entries.specs.declared.world.World.{World}
use Rattle.world_entries.specs.Worlds.{state_of, Live, Goes}
use Rattle.world_entries.proofs.CellsOf.{cells_count}
use Rattle.world_entries.proofs.Making.{main_goes}

-- ---- what there is
pub frames_count : (b : CodeBody) (fs : List Frame) → length (frames_of b fs) ≡ length fs
frames_count b [] = refl
frames_count b (f ∷ fs) = ap suc (frames_count b fs)

-- so much of each, and so many threads, cells, frames and bytes more
abbrev pub total : (i j k n : ℕ) → World → LimitKind → ℕ
total i j k n w limit.Threads = length w.threads.list.items + i
total i j k n w limit.Cells = length w.cells.cells + j
total i j k n w limit.Frames = frames_over w.threads.list.items + k
total i j k n w limit.Output = w.printed + n

pub used_is : (b : CodeBody) (w : World) (kind : LimitKind) → used kind (state_of b w) ≡ total 0 0 0 0 w kind
used_is b w limit.Threads = let e = slots_count b w.threads.list.items in omega (arith, e)
used_is b w limit.Cells = let e = cells_count w.cells.cells in omega (arith, e)
used_is b w limit.Frames = let e = frames_same b w.threads.list.items in omega (arith, e)
used_is b w limit.Output = omega arith

-- ---- a thread with other frames
frames_set : (xs : List SlotThread) (t : ℕ) (h y : SlotThread) → slice_get xs t ≡ Some h
    → frames_in (slice_set xs t y) + cond h.finished 0 (length h.term.frames) ≡ frames_in xs + cond y.finished 0 (length y.term.frames)
frames_set [] t h y is = absurd (cc is)
frames_set (a ∷ xs) zero h y is =
    let same : a ≡ h = cc is in
    let e : cond a.finished 0 (length a.term.frames) ≡ cond h.finished 0 (length h.term.frames) = ap (λ (z : SlotThread). cond z.finished 0 (length z.term.frames)) same in
    omega (arith, e)
frames_set (a ∷ xs) (suc t) h y is = let e = frames_set xs t h y is in omega (arith, e)

counts : (b : Bool) (n : ℕ) → b ≡ false → cond b 0 n ≡ n
counts true n e = absurd (cc e)
counts false n e = refl

frames_moved : (xs : List SlotThread) (t : ℕ) (h : SlotThread) (st : SlotTerm) → slice_get xs t ≡ Some h → h.finished ≡ false
    → frames_in (moved t st xs) + length h.term.frames ≡ frames_in xs + length st.frames
frames_moved xs t h st is going =
    let m : frames_in (moved t st xs) ≡ frames_in (slice_set xs t (moving st h)) = ap (λ o. frames_in (slots.set_thread t (moving st) o xs)) is in
    let e = frames_set xs t h (moving st h) is in
    let old = counts h.finished (length h.term.frames) going in
    let new = counts h.finished (length st.frames) going in
    omega (arith, m, e, old, new)

-- ---- local rules
module _ (b : CodeBody) (es : List Entry) (w : World) (live : Live b es w) (goes : Goes w) (t k : ℕ) (th : Thread) (is : slice_get w.threads.list.items t ≡ Some th) (going : th.finished ≡ false) (free : th.blocked ≡ false) (some : 0 < k)
    (st : SlotTerm) (e : locals (funs_of b) Unmasked k (term_of b th.stack) ≡ Some st) (u : State) (leads : Leads (code_of (script_of b.of.value)) live.state (entry.Local t k) u) where
  abbrev ds : List Fn
  ds = script_of b.of.value

  abbrev x : SlotState
  x = state_of b w

  local_used : (kind : LimitKind) → endings.used kind u ≡ used kind (moves t st x)
  local_used kind =
      let m =
      local_entered b.of.value live.accepted x t k (slot_of b th) st (slots_is b w.threads.list.items t th is) going free some
      (ap (λ z. locals z Unmasked k (term_of b th.stack)) (sym live.code.functions) ∙ e) (main_goes w goes b) es live.state live.run live.represents in
      let same : u ≡ m.0 = same_some (next (code_of ds) live.state (entry.Local t k)) u m.0 leads.0 m.1.0 in
      ap (endings.used kind) same ∙ same_used ds (moves t st x) m.0 m.2 kind

  -- only frames become more or fewer
  pub local_frames : endings.used limit.Frames u + length th.stack.frames ≡ frames_over w.threads.list.items + length st.frames
  local_frames =
      let a = local_used limit.Frames in
      let m = frames_moved (slots_of b w.threads.list.items) t (slot_of b th) st (slots_is b w.threads.list.items t th is) going in
      let n = frames_same b w.threads.list.items in
      let l = frames_count b th.stack.frames in
      omega (arith, a, m, n, l)

  pub local_threads : endings.used limit.Threads u ≡ total 0 0 0 0 w limit.Threads
  local_threads = local_used limit.Threads ∙ (changed_count (slots_of b w.threads.list.items) t (moving st) ∙ used_is b w limit.Threads)

  pub local_cells : endings.used limit.Cells u ≡ total 0 0 0 0 w limit.Cells
  local_cells = local_used limit.Cells ∙ used_is b w limit.Cells

  pub local_output : endings.used limit.Output u ≡ total 0 0 0 0 w limit.Output
  local_output = local_used limit.Output ∙ used_is b w limit.Output

-- a value or an exception in a frame leaves no more frames
ret_shrinks : (v : V) (f : SlotFrame) (fs : List SlotFrame) → (st : SlotTerm) × (ret_step v (f ∷ fs) ≡ Some st) × (length st.frames ≤ length (f ∷ fs))
ret_shrinks v (bind_to a vs) fs = (at (doing a (vs ++ v ∷ [])) fs, refl, omega arith)
ret_shrinks v (then_to a vs) fs = (at (doing a vs) fs, refl, omega arith)
ret_shrinks v (catch_by a vs) fs = (at (ret v) fs, refl, omega arith)
ret_shrinks v (mask_in m) fs = (at (ret v) fs, refl, omega arith)

throw_shrinks : (x : Exn) (f : SlotFrame) (fs : List SlotFrame) → (st : SlotTerm) × (throw_step Unmasked x (f ∷ fs) ≡ Some st) × (length st.frames ≤ length (f ∷ fs))
throw_shrinks x (bind_to a vs) fs = (at (throw x) fs, refl, omega arith)
throw_shrinks x (then_to a vs) fs = (at (throw x) fs, refl, omega arith)
throw_shrinks x (catch_by a vs) fs = (at (doing a (vs ++ val.Exception x ∷ [])) (mask_in (join_of Masked (mask_from Unmasked fs)) ∷ fs), refl, omega arith)
throw_shrinks x (mask_in m) fs = (at (throw x) fs, refl, omega arith)

pop_shrinks : (b : CodeBody) (funs : List SlottedFunction) (k : Control) (fs : List Frame) → MeetsOne k fs → (st : SlotTerm) × (local funs Unmasked (part_of b k) (frames_of b fs) ≡ Some st) × (length st.frames ≤ length (frames_of b fs))
pop_shrinks b funs (c.Doing i vs) fs is = absurd is
pop_shrinks b funs (c.Op q) fs is = absurd is
pop_shrinks b funs (c.Ret v) [] is = absurd is
pop_shrinks b funs (c.Ret v) (f ∷ fs) is = ret_shrinks _ (frame_of b f) (frames_of b fs)
pop_shrinks b funs (c.Throw x) [] is = absurd is
pop_shrinks b funs (c.Throw x) (f ∷ fs) is = throw_shrinks x (frame_of b f) (frames_of b fs)

pub pop_moves : (b : CodeBody) (th : Thread) → MeetsOne th.stack.control th.stack.frames → (st : SlotTerm) × (locals (funs_of b) Unmasked 1 (term_of b th.stack) ≡ Some st) × (length st.frames ≤ length th.stack.frames)
pop_moves b th is =
    let p = pop_shrinks b (funs_of b) th.stack.control th.stack.frames is in
    let n = frames_count b th.stack.frames in
    (p.0, ap (λ o. on_term o (λ u. Some u)) p.1, omega (arith, p.2, n))

-- ---- other entries
pub other_used : (b : CodeBody) (es : List Entry) (w : World) (live : Live b es w) (e : Entry) (u : State) → Leads (code_of (script_of b.of.value)) live.state e u → IsNoLocal e
    → (kind : LimitKind) → endings.used kind u ≡ total 0 0 0 0 w kind + growth kind (state_of b w) e
other_used b es w live e u leads other kind =
    entry_grows b.of.value (state_of b w) live.state u e live.represents leads.0 other kind
    ∙ ap (λ n. n + growth kind (state_of b w) e) (same_used (script_of b.of.value) (state_of b w) live.state live.represents kind ∙ used_is b w kind)
