-- What is seen of a world is so of the state that it stands for.
use Rattle.std.proofs.Common.{◌≡◌, ℕ, suc, List, [], ◌∷◌, length, Bool, true, false, cond, Option, Some, None, option_map, slice_get, is_some, refl, sym, ap, ◌∙◌, subst}
use Rattle.hs_base.specs.declared.value.Value.{Value}
use Rattle.rules_expansion.specs.trees.Trees.{T}
use Rattle.rules_expansion.specs.trees.Programs.{Fn}
use Rattle.rules_sorts.specs.Sorts.{Sort}
use Rattle.rules_code.specs.declared.code.CodeBody.{CodeBody}
use Rattle.rules_meaning.specs.Values.{V, value_of}
use Rattle.rules_waiting.specs.OneCell.{Place, Cell}
use Rattle.rules_waiting.specs.Waiting.{is_blocked}
use Rattle.slot_states.specs.mapping.Mapped.{map_some, map_line, map_cell}
use Rattle.hs_rules.specs.Terms.{Part}
use Rattle.hs_rules.specs.State as rules
use Rattle.hs_rules.specs.State.{State}
use Rattle.slot_laws.specs.SlotRules.{SlotPart, SlotOp, calls, forks, forks_unmask, ret, throw, doing, performs}
use Rattle.slot_laws.specs.Standing.{PartStands, ret_stands, throw_stands, do_stands, op_stands, calls_stands, forks_stands, forks_unmask_stands, StandsIn}
use Rattle.slot_states.specs.SlotStates.{term_at, SameThread, SameCell, Represents}
use Rattle.frame_stack.specs.declared.control.Control.{Control}
use Rattle.frame_stack.specs.declared.control.Control.TheVariants as c
use Rattle.frame_stack.specs.declared.control.Operation.{Operation}
use Rattle.frame_stack.specs.declared.control.Operation.TheVariants as o
use Rattle.frame_stack.specs.Parts.{op_of, part_of}
use Rattle.thread_table.specs.declared.thread.Thread.{Thread}
use Rattle.thread_table.specs.Table.{slot_of}
use Rattle.thread_table.proofs.Table.{slots_at}
use Rattle.world_entries.specs.declared.world.World.{World}
use Rattle.world_entries.specs.Worlds.{state_of}
use Rattle.world_entries.proofs.CellsOf.{cells_at}
use Rattle.trace_report.specs.declared.tally.touch.Touch.{Touch}
use Rattle.trace_report.specs.declared.tally.touch.Touch.TheVariants as touch
use Rattle.trace_report.specs.declared.tally.writing.Word.TheVariants as word
use Rattle.trace_report.specs.tally.Reporting as report
use Rattle.trace_report.specs.tally.Reporting.{is_full, thread_word, line_length}
use Rattle.trace_report.specs.tally.Touching.{primitive_touch, part_touch, thread_touch, full_in}
use Rattle.trace_report.specs.tally.Words.{word_text}
use Rattle.trace_report.specs.Looking.{operation_touch, control_touch, touch_at, blocked_at, full_at, line_at, ended_word, word_at}

-- ---- what a thread stands at
abbrev pub slot_op_touch : SlotOp → Touch
slot_op_touch (calls p vs) = primitive_touch p vs
slot_op_touch (forks a vs) = touch.Nothing
slot_op_touch (forks_unmask a vs) = touch.Nothing

abbrev pub slot_touch : SlotPart → Touch
slot_touch (performs p) = slot_op_touch p
slot_touch (ret v) = touch.Nothing
slot_touch (throw e) = touch.Nothing
slot_touch (doing a vs) = touch.Nothing

operation_same : (b : CodeBody) (p : Operation) → operation_touch p ≡ slot_op_touch (op_of b p)
operation_same b (o.TakeMVar m) = refl
operation_same b _ = refl

control_same : (b : CodeBody) (k : Control) → control_touch k ≡ slot_touch (part_of b k)
control_same b (c.Doing i vs) = refl
control_same b (c.Ret v) = refl
control_same b (c.Throw e) = refl
control_same b (c.Op p) = operation_same b p

part_same : {cells : ℕ → T → Type 0} {ds : List Fn} {p : SlotPart} {q : Part} {k : Sort} → PartStands cells ds p q k → slot_touch p ≡ part_touch q
part_same (ret_stands h) = refl
part_same throw_stands = refl
part_same (do_stands h) = refl
part_same (op_stands (calls_stands a h)) = refl
part_same (op_stands (forks_stands h)) = refl
part_same (op_stands (forks_unmask_stands h)) = refl

-- ---- how it ended
abbrev pub slot_word : SlotPart → List ℕ
slot_word (ret v) = word_text word.Done
slot_word (throw e) = word_text word.Failed
slot_word (performs p) = word_text word.Running
slot_word (doing a vs) = word_text word.Running

ended_control : (b : CodeBody) (k : Control) → word_text (ended_word k) ≡ slot_word (part_of b k)
ended_control b (c.Doing i vs) = refl
ended_control b (c.Ret v) = refl
ended_control b (c.Throw e) = refl
ended_control b (c.Op p) = refl

ended_part : {cells : ℕ → T → Type 0} {ds : List Fn} {p : SlotPart} {q : Part} {k : Sort} → PartStands cells ds p q k → slot_word p ≡ report.ended_word q
ended_part (ret_stands h) = refl
ended_part throw_stands = refl
ended_part (do_stands h) = refl
ended_part (op_stands h) = refl

word_by : (b f : Bool) (w : List ℕ) (x : _) → word_text x ≡ w → word_text (cond f x (cond b word.Waiting word.Running)) ≡ cond f w (cond b (word_text word.Waiting) (word_text word.Running))
word_by b true w x e = e
word_by true false w x e = refl
word_by false false w x e = refl

module _ (ds : List Fn) (b : CodeBody) (w : World) (s : State) (r : Represents ds (state_of b w) s) (t : ℕ) where
  abbrev Stood : Option Thread → Option rules.Thread → Type 0
  Stood x y = SameThread (option_map (slot_of b) x) y (is_blocked t s.blocked) × ((th : rules.Thread) → y ≡ Some th → StandsIn ds r.stacks.store t (term_at (option_map (slot_of b) x)) th.term)

  stood : Stood (slice_get w.threads.list.items t) (slice_get s.threads t)
  stood =
      let e = slots_at b w.threads.list.items t in
      (subst (λ z. SameThread z (slice_get s.threads t) (is_blocked t s.blocked)) e (r.agrees.threads t), λ th is. subst (λ z. StandsIn ds r.stacks.store t (term_at z) th.term) e (r.stacks.stands t th is))

  touch_by : (x : Option Thread) (y : Option rules.Thread) → Stood x y → touch_at x ≡ thread_touch y
  touch_by None None h = refl
  touch_by None (Some th) h = absurd h.0
  touch_by (Some f) None h = absurd h.0
  touch_by (Some f) (Some th) h = control_same b f.stack.control ∙ part_same (h.1 th refl).0

  pub touch_shown : touch_at (slice_get w.threads.list.items t) ≡ thread_touch (slice_get s.threads t)
  touch_shown = touch_by (slice_get w.threads.list.items t) (slice_get s.threads t) stood

  word_shown_by : (x : Option Thread) (y : Option rules.Thread) → Stood x y → word_text (word_at x) ≡ thread_word y (is_blocked t s.blocked)
  word_shown_by None None h = refl
  word_shown_by None (Some th) h = absurd h.0
  word_shown_by (Some f) None h = absurd h.0
  word_shown_by (Some f) (Some th) h =
      word_by f.blocked f.finished (report.ended_word th.term.part) (ended_word f.stack.control) (ended_control b f.stack.control ∙ ended_part (h.1 th refl).0)
      ∙ (ap (λ z. cond z (report.ended_word th.term.part) (cond f.blocked (word_text word.Waiting) (word_text word.Running))) h.0.0
      ∙ ap (λ z. cond th.finished (report.ended_word th.term.part) (cond z (word_text word.Waiting) (word_text word.Running))) h.0.1)

  pub word_shown : word_text (word_at (slice_get w.threads.list.items t)) ≡ thread_word (slice_get s.threads t) (is_blocked t s.blocked)
  word_shown = word_shown_by (slice_get w.threads.list.items t) (slice_get s.threads t) stood

  -- of a thread that is there
  blocked_by : (x : Option Thread) (y : Option rules.Thread) (th : rules.Thread) → y ≡ Some th → Stood x y → blocked_at x ≡ is_blocked t s.blocked
  blocked_by None None th e h = absurd (cc e)
  blocked_by None (Some u) th e h = absurd h.0
  blocked_by (Some f) None th e h = absurd h.0
  blocked_by (Some f) (Some u) th e h = h.0.1

  pub blocked_shown : (th : rules.Thread) → slice_get s.threads t ≡ Some th → blocked_at (slice_get w.threads.list.items t) ≡ is_blocked t s.blocked
  blocked_shown th is = blocked_by (slice_get w.threads.list.items t) (slice_get s.threads t) th is stood

  absent_by : (x : Option Thread) (y : Option rules.Thread) → y ≡ None → Stood x y → blocked_at x ≡ false
  absent_by None y e h = refl
  absent_by (Some f) None e h = absurd h.0
  absent_by (Some f) (Some u) e h = absurd (cc e)

  pub absent_shown : slice_get s.threads t ≡ None → blocked_at (slice_get w.threads.list.items t) ≡ false
  absent_shown e = absent_by (slice_get w.threads.list.items t) (slice_get s.threads t) e stood

-- ---- a cell

full_mapped : (x : Option Value) → is_some x ≡ is_full (Some (map_some value_of x))
full_mapped None = refl
full_mapped (Some v) = refl

line_mapped : (ps : List (Place Value)) → length ps ≡ length (map_line value_of ps)
line_mapped [] = refl
line_mapped (p ∷ ps) = ap suc (line_mapped ps)

module _ (ds : List Fn) (b : CodeBody) (w : World) (s : State) (r : Represents ds (state_of b w) s) (m : ℕ) where
  shown_cell : SameCell m s (option_map (map_cell value_of) (slice_get w.cells.cells m))
  shown_cell = subst (SameCell m s) (cells_at w.cells.cells m) (r.agrees.cells m)

  full_by : (x : Option (Cell Value)) → SameCell m s (option_map (map_cell value_of) x) → full_at x ≡ full_in m s
  full_by None h = sym (ap is_full h)
  full_by (Some k) h = full_mapped k.content ∙ sym (ap is_full h.content)

  pub full_shown : full_at (slice_get w.cells.cells m) ≡ full_in m s
  full_shown = full_by (slice_get w.cells.cells m) shown_cell

  line_by : (x : Option (Cell Value)) (o : Option V) → slice_get s.cells m ≡ Some o → SameCell m s (option_map (map_cell value_of) x) → line_at x ≡ line_length m s
  line_by None o e h = let z : ◌≡◌ {A = Option (Option V)} None (Some o) = sym h ∙ e in absurd (cc z)
  line_by (Some k) o e h = line_mapped k.line ∙ ap length (sym h.line)

  -- of a cell that is there
  pub line_shown : (o : Option V) → slice_get s.cells m ≡ Some o → line_at (slice_get w.cells.cells m) ≡ line_length m s
  line_shown o e = line_by (slice_get w.cells.cells m) o e shown_cell
