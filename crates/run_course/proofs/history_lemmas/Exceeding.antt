-- Entries that would exceed a limit, and those that fit.
use Rattle.std.proofs.Common.{◌≡◌, ◌≤◌, ◌<◌, ◌+◌, ℕ, List, ◌++◌, length, length-append, Some, refl, sym, ap, ◌∙◌, subst, arith}
use Rattle.std.proofs.Math.Bridge.{le_prop}
use Rattle.std.proofs.Math.Logic.{∥∥₁_elim, ∥∥₁_prop, ∥∥₁_map}
use Rattle.hs_base.specs.declared.limits.Limits.{Limits}
use Rattle.hs_base.specs.declared.mask.Mask.TheVariants.{Unmasked}
use Rattle.hs_rules.specs.declared.entry.Entry.{Entry}
use Rattle.hs_rules.specs.declared.entry.Entry.TheVariants as entry
use Rattle.hs_rules.specs.declared.entry.LimitKind.{LimitKind}
use Rattle.hs_rules.specs.declared.entry.LimitKind.TheVariants as limit
use Rattle.rules_expansion.specs.trees.Programs.{Fn, script_of}
use Rattle.rules_meaning.specs.CoreMeaning.{code_of}
use Rattle.rules_code.specs.declared.code.CodeBody.{CodeBody}
use Rattle.hs_rules.specs.State.{State}
use Rattle.hs_rules.specs.Entries.{Leads}
use Rattle.hs_rules.specs.Histories.{cost_of, steps_of}
use Rattle.hs_rules.specs.Endings.{used, allowed, Exceeds, IsWithin, FirstExceeded}
use Rattle.hs_laws.specs.HistoryEndings.{IsShort, StaysWithin}
use Rattle.slot_laws.specs.SlotRules.{SlotTerm, locals}
use Rattle.slot_states.specs.Growing.{doer, op_of, forked, celled, growth, IsNoLocal}
use Rattle.slot_states.proofs.AtRest.{same_used}
use Rattle.slot_states.proofs.Moving.{local_entered}
use Rattle.local_steps.specs.Machine.{funs_of}
use Rattle.frame_stack.specs.declared.sliced.Slice.{Slice}
use Rattle.frame_stack.specs.Parts.{stacked, term_of}
use Rattle.frame_stack.specs.Slicing.{Moves}
use Rattle.frame_stack.proofs.Terms.{slice_fits}
use Rattle.thread_table.specs.Table.{slot_of}
use Rattle.thread_table.proofs.Table.{slots_is}
use Rattle.world_entries.specs.declared.world.World.{World}
use Rattle.world_entries.specs.Worlds.{state_of, Live, Goes, Starts}
use Rattle.world_entries.proofs.Making.{main_goes}
use Rattle.run_course.specs.declared.history.acts.NextEntry.{NextEntry}
use Rattle.run_course.specs.declared.history.acts.NextEntry.TheVariants as act
use Rattle.run_course.specs.declared.history.record.Record.{Record}
use Rattle.run_course.specs.history.Acts.{entry_of}
use Rattle.run_course.specs.history.Records.{script, Can, Fits, Prints, WouldExceed}
use Rattle.run_course.proofs.history_lemmas.Legal.{Legal, acts_are_legal}
use Rattle.run_course.proofs.history_lemmas.GoingOn.{state_within, one_state}
use Rattle.run_course.proofs.history_lemmas.Sizes.{frames_count, total, used_is, local_frames, local_threads, local_cells, local_output, pop_moves, other_used}

-- ---- amounts and limits

-- the first limit that these amounts exceed
abbrev pub FirstOver : LimitKind → Limits → (LimitKind → ℕ) → Type 0
FirstOver limit.Threads limits amount = limits.threads < amount limit.Threads
FirstOver limit.Cells limits amount = (amount limit.Threads ≤ limits.threads) × (limits.cells < amount limit.Cells)
FirstOver limit.Frames limits amount = (amount limit.Threads ≤ limits.threads) × (amount limit.Cells ≤ limits.cells) × (limits.frames < amount limit.Frames)
FirstOver limit.Output limits amount = (amount limit.Threads ≤ limits.threads) × (amount limit.Cells ≤ limits.cells) × (amount limit.Frames ≤ limits.frames) × (limits.output < amount limit.Output)

-- none of them exceeds one
abbrev pub NoneOver : Limits → (LimitKind → ℕ) → Type 0
NoneOver limits amount = (amount limit.Threads ≤ limits.threads) × (amount limit.Cells ≤ limits.cells) × (amount limit.Frames ≤ limits.frames) × (amount limit.Output ≤ limits.output)

-- a state has at most these amounts, and more than is allowed where they are more
record Counted (limits : Limits) (amount : LimitKind → ℕ) (u : State) : Type 0 where
  most : (kind : LimitKind) → used kind u ≤ amount kind
  over : (kind : LimitKind) → allowed kind limits < amount kind → allowed kind limits < used kind u

not_over : (limits : Limits) (amount : LimitKind → ℕ) (u : State) → Counted limits amount u → (kind : LimitKind) → amount kind ≤ allowed kind limits → ¬ Exceeds kind limits u
not_over limits amount u c kind le over = omega (arith, le, over, c.most kind)

first_over : (limits : Limits) (amount : LimitKind → ℕ) (u : State) → Counted limits amount u → (kind : LimitKind) → FirstOver kind limits amount → FirstExceeded kind limits u
first_over limits amount u c limit.Threads h = c.over limit.Threads h
first_over limits amount u c limit.Cells h = (not_over limits amount u c limit.Threads h.0, c.over limit.Cells h.1)
first_over limits amount u c limit.Frames h = (not_over limits amount u c limit.Threads h.0, not_over limits amount u c limit.Cells h.1, c.over limit.Frames h.2)
first_over limits amount u c limit.Output h = (not_over limits amount u c limit.Threads h.0, not_over limits amount u c limit.Cells h.1, not_over limits amount u c limit.Frames h.2, c.over limit.Output h.3)

none_over : (limits : Limits) (amount : LimitKind → ℕ) (u : State) → Counted limits amount u → NoneOver limits amount → IsWithin limits u
none_over limits amount u c h limit.Threads = not_over limits amount u c limit.Threads h.0
none_over limits amount u c h limit.Cells = not_over limits amount u c limit.Cells h.1
none_over limits amount u c h limit.Frames = not_over limits amount u c limit.Frames h.2
none_over limits amount u c h limit.Output = not_over limits amount u c limit.Output h.3

-- where it has just these amounts
counted : (limits : Limits) (amount : LimitKind → ℕ) (u : State) → ((kind : LimitKind) → used kind u ≡ amount kind) → Counted limits amount u
counted limits amount u e = record { most = λ kind. omega (arith, e kind); over = λ kind h. omega (arith, e kind, h) }

-- ---- what a live world has is within the limits
live_within : (b : CodeBody) (es : List Entry) (w : World) (limits : Limits) → (live : Live b es w) → StaysWithin limits (script_of b.of.value) es → (kind : LimitKind) → total 0 0 0 0 w kind ≤ allowed kind limits
live_within b es w limits live stays kind =
    let not = state_within limits (script_of b.of.value) es live.state stays live.run kind in
    let e = same_used (script_of b.of.value) (state_of b w) live.state live.represents kind ∙ used_is b w kind in
    omega (arith, not, e)

-- ---- an act

-- it makes so many threads and cells, and prints so many bytes
pub record Adds (b : CodeBody) (i j n : ℕ) (a : NextEntry) (w : World) : Type 0 where
  pub threads : i ≡ forked (op_of (doer (state_of b w) (entry_of a)))
  pub cells : j ≡ celled (op_of (doer (state_of b w) (entry_of a)))
  pub bytes : n ≡ growth limit.Output (state_of b w) (entry_of a)

module _ (b : CodeBody) (es : List Entry) (w : World) (live : Live b es w) (goes : Goes w) (limits : Limits) (stays : StaysWithin limits (script_of b.of.value) es) (i j n : ℕ) where
  abbrev ds : List Fn
  ds = script_of b.of.value

  other_counted : (a : NextEntry) → IsNoLocal (entry_of a) → Adds b i j n a w → (u : State) → Leads (code_of ds) live.state (entry_of a) u → Counted limits (total i j i n w) u
  other_counted a other m u leads = counted limits (total i j i n w) u by
    where
      by : (kind : LimitKind) → used kind u ≡ total i j i n w kind
      by limit.Threads = let e = other_used b es w live (entry_of a) u leads other limit.Threads in omega (arith, e, m.threads)
      by limit.Cells = let e = other_used b es w live (entry_of a) u leads other limit.Cells in omega (arith, e, m.cells)
      by limit.Frames = let e = other_used b es w live (entry_of a) u leads other limit.Frames in omega (arith, e, m.threads)
      by limit.Output = let e = other_used b es w live (entry_of a) u leads other limit.Output in omega (arith, e, m.bytes)

  local_counted : (t : ℕ) → Can (act.Local t) w → Adds b i j n (act.Local t) w → (u : State) → Leads (code_of ds) live.state (entry.Local t 1) u → Counted limits (total i j i n w) u
  local_counted t own m u leads = record { most = most; over = over }
    where
      p : (st : SlotTerm) × (locals (funs_of b) Unmasked 1 (term_of b own.thread.stack) ≡ Some st) × (length st.frames ≤ length own.thread.stack.frames)
      p = pop_moves b own.thread own.holds

      most : (kind : LimitKind) → used kind u ≤ total i j i n w kind
      most limit.Threads = let e = local_threads b es w live goes t 1 own.thread own.is own.unfinished own.free (omega arith) p.0 p.1 u leads in omega (arith, e)
      most limit.Cells = let e = local_cells b es w live goes t 1 own.thread own.is own.unfinished own.free (omega arith) p.0 p.1 u leads in omega (arith, e)
      most limit.Frames = let e = local_frames b es w live goes t 1 own.thread own.is own.unfinished own.free (omega arith) p.0 p.1 u leads in omega (arith, e, p.2)
      most limit.Output = let e = local_output b es w live goes t 1 own.thread own.is own.unfinished own.free (omega arith) p.0 p.1 u leads in omega (arith, e)

      -- it makes and prints nothing
      over : (kind : LimitKind) → allowed kind limits < total i j i n w kind → allowed kind limits < used kind u
      over limit.Threads h = let e = live_within b es w limits live stays limit.Threads in absurd (omega (arith, e, h, m.threads))
      over limit.Cells h = let e = live_within b es w limits live stays limit.Cells in absurd (omega (arith, e, h, m.cells))
      over limit.Frames h = let e = live_within b es w limits live stays limit.Frames in absurd (omega (arith, e, h, m.threads))
      over limit.Output h = let e = live_within b es w limits live stays limit.Output in absurd (omega (arith, e, h, m.bytes))

  act_counted : (a : NextEntry) → Can a w → Adds b i j n a w → (u : State) → Leads (code_of ds) live.state (entry_of a) u → Counted limits (total i j i n w) u
  act_counted (act.Op t) can m = other_counted (act.Op t) tt m
  act_counted (act.Finish t) can m = other_counted (act.Finish t) tt m
  act_counted (act.Local t) can m = local_counted t can m
  act_counted (act.Receive t) can m = other_counted (act.Receive t) tt m
  act_counted (act.Wake t) can m = other_counted (act.Wake t) tt m
  act_counted act.Strand can m = other_counted act.Strand tt m

pub cost_one : (a : NextEntry) → cost_of (entry_of a) ≡ 1
cost_one (act.Op t) = refl
cost_one (act.Finish t) = refl
cost_one (act.Local t) = refl
cost_one (act.Receive t) = refl
cost_one (act.Wake t) = refl
cost_one act.Strand = refl

act_short : (a : NextEntry) → IsShort (entry_of a)
act_short (act.Op t) = tt
act_short (act.Finish t) = tt
act_short (act.Local t) = omega arith
act_short (act.Receive t) = tt
act_short (act.Wake t) = tt
act_short act.Strand = tt

pub adds_so : (r : Record) (i j n : ℕ) (a : NextEntry) → ((b : CodeBody) → i ≡ forked (op_of (doer (state_of b r.world) (entry_of a)))) → ((b : CodeBody) → j ≡ celled (op_of (doer (state_of b r.world) (entry_of a)))) → Prints n a r → Adds r.of.value i j n a r.world
adds_so r i j n a threads cells bytes = record { threads = threads r.of.value; cells = cells r.of.value; bytes = bytes }

module _ (r : Record) (goes : Goes r.world) (a : NextEntry) (can : Can a r.world) (i j n : ℕ) (m : Adds r.of.value i j n a r.world) where
  pub act_exceeds : steps_of r.history.list + 1 ≤ r.fuel → (kind : LimitKind) → FirstOver kind r.limits (total i j i n r.world) → WouldExceed kind (entry_of a) r
  act_exceeds fuel kind over =
      ∥∥₁_elim r.after ∥∥₁_prop (λ live. ∥∥₁_map r.limited (λ stays.
      let l = acts_are_legal r.of.value r.history.list r.world live goes a can in
      record {
        state = live.state;
        run = live.run;
        next = l.0;
        leads = l.1;
        affordable = omega (arith, fuel, cost_one a);
        short = act_short a;
        exceeds = first_over r.limits (total i j i n r.world) l.0 (act_counted r.of.value r.history.list r.world live goes r.limits stays i j n a can m l.0 l.1) kind over;
      }))

  pub act_fits : NoneOver r.limits (total i j i n r.world) → Fits (entry_of a) r
  act_fits within s u run leads kind over =
      ∥∥₁_elim r.after (λ x y. absurd x) (λ live. ∥∥₁_elim r.limited (λ x y. absurd x) (λ stays.
      let same : s ≡ live.state = one_state (script r) r.history.list s live.state run live.run in
      none_over r.limits (total i j i n r.world) u
      (act_counted r.of.value r.history.list r.world live goes r.limits stays i j n a can m u (subst (λ z. Leads (code_of (script r)) z (entry_of a) u) same leads)) within kind over))

-- ---- what a record has is within its limits
pub record_within : (r : Record) → (kind : LimitKind) → total 0 0 0 0 r.world kind ≤ allowed kind r.limits
record_within r kind =
    ∥∥₁_elim r.after le_prop (λ live. ∥∥₁_elim r.limited le_prop (λ stays. live_within r.of.value r.history.list r.world r.limits live stays kind))

-- ---- the clock's time
no_growth : (b : CodeBody) (w : World) (at : ℕ) (kind : LimitKind) → growth kind (state_of b w) (entry.Tick at) ≡ 0
no_growth b w at limit.Threads = refl
no_growth b w at limit.Cells = refl
no_growth b w at limit.Frames = refl
no_growth b w at limit.Output = refl

pub tick_fits : (r : Record) (at : ℕ) → Fits (entry.Tick at) r
tick_fits r at s u run leads kind over =
    ∥∥₁_elim r.after (λ x y. absurd x) (λ live.
    let same : s ≡ live.state = one_state (script r) r.history.list s live.state run live.run in
    let e = other_used r.of.value r.history.list r.world live (entry.Tick at) u (subst (λ z. Leads (code_of (script r)) z (entry.Tick at) u) same leads) tt kind in
    omega (arith, e, no_growth r.of.value r.world at kind, record_within r kind, over))

-- ---- a slice
module _ (b : CodeBody) (es : List Entry) (w : World) (live : Live b es w) (goes : Goes w) (s : Slice) (at : Starts s w)
    (moves : locals (funs_of b) Unmasked s.steps (term_of b (stacked s.start at.thread.stack.frames)) ≡ Some (term_of b (stacked s.end (s.pushed.list ++ at.thread.stack.frames)))) where
  abbrev after : SlotTerm
  after = term_of b (stacked s.end (s.pushed.list ++ at.thread.stack.frames))

  there : locals (funs_of b) Unmasked s.steps (term_of b at.thread.stack) ≡ Some after
  there = ap (λ k. locals (funs_of b) Unmasked s.steps (term_of b (stacked k at.thread.stack.frames))) at.control ∙ moves

  slice_legal : Legal b es w live (entry.Local s.tid s.steps)
  slice_legal =
      let k =
      local_entered b.of.value live.accepted (state_of b w) s.tid s.steps (slot_of b at.thread) after (slots_is b w.threads.list.items s.tid at.thread at.is) at.unfinished at.free s.some
      (ap (λ z. locals z Unmasked s.steps (term_of b at.thread.stack)) (sym live.code.functions) ∙ there) (main_goes w goes b) es live.state live.run live.represents in
      (k.0, k.1)

  slice_used : (u : State) → Leads (code_of (script_of b.of.value)) live.state (entry.Local s.tid s.steps) u → (kind : LimitKind) → used kind u ≡ total 0 0 (length s.pushed.list) 0 w kind
  slice_used u leads limit.Threads = local_threads b es w live goes s.tid s.steps at.thread at.is at.unfinished at.free s.some after there u leads
  slice_used u leads limit.Cells = local_cells b es w live goes s.tid s.steps at.thread at.is at.unfinished at.free s.some after there u leads
  slice_used u leads limit.Output = local_output b es w live goes s.tid s.steps at.thread at.is at.unfinished at.free s.some after there u leads
  slice_used u leads limit.Frames =
      let e = local_frames b es w live goes s.tid s.steps at.thread at.is at.unfinished at.free s.some after there u leads in
      let k = frames_count b (s.pushed.list ++ at.thread.stack.frames) in
      let l = length-append s.pushed.list at.thread.stack.frames in
      omega (arith, e, k, l)

module _ (r : Record) (goes : Goes r.world) (s : Slice) (same : s.of.value ≡ r.of.value) (at : Starts s r.world) where
  -- its local rules in its thread's frames
  slice_moves : ∥ locals (funs_of r.of.value) Unmasked s.steps (term_of r.of.value (stacked s.start at.thread.stack.frames)) ≡ Some (term_of r.of.value (stacked s.end (s.pushed.list ++ at.thread.stack.frames))) ∥₁
  slice_moves = slice_fits r.of.value s.mask s.steps s.start s.end s.pushed.list at.thread.stack.frames (sym at.mask) (∥∥₁_map s.moves (λ h. subst (λ b. Moves b s.mask s.steps s.start s.end s.pushed.list) same h))

  pub slice_exceeds : steps_of r.history.list + s.steps ≤ r.fuel → r.limits.frames < total 0 0 (length s.pushed.list) 0 r.world limit.Frames → WouldExceed limit.Frames (entry.Local s.tid s.steps) r
  slice_exceeds fuel over =
      ∥∥₁_elim r.after ∥∥₁_prop (λ live. ∥∥₁_map slice_moves (λ moves.
      let l = slice_legal r.of.value r.history.list r.world live goes s at moves in
      let amount = total 0 0 (length s.pushed.list) 0 r.world in
      record {
        state = live.state;
        run = live.run;
        next = l.0;
        leads = l.1;
        affordable = fuel;
        short = s.few;
        exceeds = first_over r.limits amount l.0 (counted r.limits amount l.0 (slice_used r.of.value r.history.list r.world live goes s at moves l.0 l.1)) limit.Frames (record_within r limit.Threads, record_within r limit.Cells, over);
      }))

  pub slice_fits_in : total 0 0 (length s.pushed.list) 0 r.world limit.Frames ≤ r.limits.frames → Fits (entry.Local s.tid s.steps) r
  slice_fits_in within v u run leads kind over =
      ∥∥₁_elim r.after (λ x y. absurd x) (λ live. ∥∥₁_elim slice_moves (λ x y. absurd x) (λ moves.
      let one : v ≡ live.state = one_state (script r) r.history.list v live.state run live.run in
      let amount = total 0 0 (length s.pushed.list) 0 r.world in
      none_over r.limits amount u
      (counted r.limits amount u (slice_used r.of.value r.history.list r.world live goes s at moves u (subst (λ z. Leads (code_of (script r)) z (entry.Local s.tid s.steps) u) one leads)))
      (record_within r limit.Threads, record_within r limit.Cells, within, record_within r limit.Output) kind over))
