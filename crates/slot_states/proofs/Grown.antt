-- So many threads, cells, frames and bytes does an entry other than a Local add.
use Rattle.std.proofs.Common.{◌≡◌, ℕ, zero, suc, ◌+◌, List, [], ◌∷◌, ◌++◌, length, slice_get, slice_set, Bool, true, false, cond, Option, Some, None, refl, sym, ap, ◌∙◌, subst, arith, length-append}
use Rattle.hs_base.specs.declared.mask.Mask.TheVariants.{Unmasked}
use Rattle.hs_base.specs.declared.exn.Exn.TheVariants.{Timeout, BlockedIndefinitely}
use Rattle.hs_base.specs.declared.tree.script.Script.{Script}
use Rattle.hs_rules.specs.declared.entry.Entry.{Entry}
use Rattle.hs_rules.specs.declared.entry.LimitKind.{LimitKind}
use Rattle.hs_rules.specs.declared.entry.LimitKind.TheVariants as limit
use Rattle.rules_expansion.specs.trees.Trees.{T}
use Rattle.rules_expansion.specs.trees.Programs.{Fn, script_of}
use Rattle.rules_meaning.specs.Values as val
use Rattle.rules_meaning.specs.Values.{V, UnitValue, Int, Truth, Text, Nothing, Just, Exception, Inst, with_name}
use Rattle.rules_expansion.specs.declared.primitive.Primitive.TheVariants.{NewMVar, NewEmptyMVar}
use Rattle.rules_meaning.specs.CoreMeaning.{Code, code_of}
use Rattle.rules_sorts.specs.Sorts.{Sort}
use Rattle.hs_rules.specs.Terms.{Operation, Calls, Forks, ForksUnmask, Part, Ret, Throw, Do, Performs, Frame, MaskIn, term}
use Rattle.hs_rules.specs.State.{AcquiredBy, ReleasedBy, Thread, State, with_term, frames_of, thread_with, resume, answer, spawn}
use Rattle.hs_rules.specs.Primitives.{line_feed}
use Rattle.hs_rules.specs.Entries.{stranded, next}
use Rattle.hs_laws.specs.cases.Cases.{printed, told, with_cell}
use Rattle.hs_laws.proofs.Lists.{those}
use Rattle.hs_laws.proofs.Changes as change
use Rattle.hs_laws.proofs.Changes.{Changes, Stands, Calm, Makes, all_kept, changes}
use Rattle.hs_rules.specs.Endings.{used, frames_in}
use Rattle.hs_laws.proofs.Growing.{term_length, set_length}
use Rattle.slot_laws.specs.SlotRules.{calls, SlotPart}
use Rattle.slot_laws.specs.Standing.{calls_stands, forks_stands, forks_unmask_stands, PartStands, op_stands}
use Rattle.slot_states.specs.SlotStates.{SlotState, Represents}
use Rattle.slot_states.specs.Growing.{performed, op_of, forked, celled, doer, growth, IsNoLocal}
use Rattle.slot_states.specs.Printing.{output_by, errors_by}
use Rattle.slot_states.proofs.Printed.{next_adds}
use Rattle.slot_states.proofs.Reading.{slotted_of}

-- ---- frames
-- the frames of a thread that count
abbrev frames_by : Thread → ℕ
frames_by th = cond th.finished 0 (length th.term.frames)

pub set_frames : (ths : List Thread) (t : ℕ) (a b : Thread) → slice_get ths t ≡ Some a → frames_by b ≡ frames_by a → frames_in (slice_set ths t b) ≡ frames_in ths
set_frames [] t a b h e = refl
set_frames (c ∷ ths) zero a b h e =
    let same : c ≡ a = cc h in
    ap (λ n. n + frames_in ths) (e ∙ ap frames_by (sym same))
set_frames (c ∷ ths) (suc t) a b h e = ap (λ n. frames_by c + n) (set_frames ths t a b h e)

kept_frames : (t : ℕ) (p : Part) (o : Option Thread) (ths : List Thread) → slice_get ths t ≡ o → frames_in (with_term t o (term p (frames_of o)) ths) ≡ frames_in ths
kept_frames t p None ths h = refl
kept_frames t p (Some th) ths h = set_frames ths t th (record { term = term p th.term.frames; finished = th.finished }) h refl

pub last_frames : (ths : List Thread) (th : Thread) → frames_in (ths ++ th ∷ []) ≡ frames_in ths + frames_by th
last_frames [] th = omega arith
last_frames (c ∷ ths) th = let k = last_frames ths th in omega (arith, k)

-- ---- operations that keep all three counts
module _ (s : State) (i j : ℕ) where
  -- i threads, each with one frame, and j cells more than s has
  abbrev Counts : (threads cells frames : ℕ) → Type 0
  Counts n c f = (n ≡ length s.threads + i) × (c ≡ length s.cells + j) × (f ≡ frames_in s.threads + i)

  abbrev Grows : State → Type 0
  Grows u = Counts (length u.threads) (length u.cells) (frames_in u.threads)

  resume_grows : (t : ℕ) (p : Part) (u : State) → Grows u → Grows (resume t p u)
  resume_grows t p u h = (
    term_length t (slice_get u.threads t) (term p (frames_of (slice_get u.threads t))) u.threads ∙ h.0,
    h.1,
    kept_frames t p (slice_get u.threads t) u.threads refl ∙ h.2,
  )

  set_grows : (m : ℕ) (o : Option V) (u : State) → Grows u → Grows (record u { cells = slice_set u.cells m o })
  set_grows m o u h = (h.0, set_length u.cells m o ∙ h.1, h.2)

-- ---- what an operation of the rules makes
abbrev threads_of : Operation → ℕ
threads_of (Calls w vs) = 0
threads_of op = 1

abbrev cells_of : Operation → ℕ
cells_of (Calls w vs) = celled (Some (calls w vs))
cells_of op = 0

stands_makes : {cells : ℕ → T → Type 0} {ds : List Fn} {p : SlotPart} {q : Part} {k : Sort} {op : Operation} → PartStands cells ds p q k → q ≡ Performs op
    → (threads_of op ≡ forked (performed p)) × (cells_of op ≡ celled (performed p))
stands_makes {op} (op_stands (calls_stands {p} {vs = vs} b h)) e = let same : op ≡ Calls p vs = cc (sym e) in (ap threads_of same, ap cells_of same)
stands_makes {op} (op_stands (forks_stands {a} {env} r)) e = let same : op ≡ Forks a env = cc (sym e) in (ap threads_of same, ap cells_of same)
stands_makes {op} (op_stands (forks_unmask_stands {r} {a} {env} w)) e = let same : op ≡ ForksUnmask r a env = cc (sym e) in (ap threads_of same, ap cells_of same)
stands_makes _ e = absurd (cc e)

-- ---- entries
module _ (ds : List Fn) (x : SlotState) (s : State) (r : Represents ds x s) where
  by_its_part : {t : ℕ} {op : Operation} {n c f : ℕ} → Stands s t op → Counts s (threads_of op) (cells_of op) n c f → Counts s (forked (op_of (slice_get x.threads t))) (celled (op_of (slice_get x.threads t))) n c f
  by_its_part {t} {op} {n} {c} {f} h k =
      let z = slotted_of ds x s r t h.th h.is in
      let w = stands_makes z.4.0 h.part in
      subst (λ o. Counts s (forked (op_of o)) (celled (op_of o)) n c f) (sym z.1)
      (subst (λ i. Counts s i (celled (performed z.0.term.part)) n c f) w.0 (subst (λ j. Counts s (threads_of op) j n c f) w.1 k))

  none_more : (n : ℕ) → n ≡ n + 0
  none_more n = omega arith

  same : Grows s 0 0 s
  same = (none_more (length s.threads), none_more (length s.cells), none_more (frames_in s.threads))

  goes : (t : ℕ) (p : Part) (u : State) → Grows s 0 0 u → Grows s 0 0 (resume t p u)
  goes t p u = resume_grows s 0 0 t p u

  calm_grows : (op : Operation) → Calm op → {n c f : ℕ} → Counts s 0 0 n c f → Counts s (threads_of op) (cells_of op) n c f
  calm_grows (Calls NewMVar vs) c h = absurd c
  calm_grows (Calls NewEmptyMVar vs) c h = absurd c
  calm_grows (Forks a env) c h = absurd c
  calm_grows (ForksUnmask z a env) c h = absurd c
  calm_grows op c h = h

  makes_grows : (op : Operation) → Makes op → {n c f : ℕ} → Counts s 0 1 n c f → Counts s (threads_of op) (cells_of op) n c f
  makes_grows (Calls NewMVar vs) m h = h
  makes_grows (Calls NewEmptyMVar vs) m h = h
  makes_grows op m h = absurd m

  -- a thread with one frame
  spawn_grows : (t : ℕ) (v : V) (p : Part) (f : Frame) → Grows s 1 0 (spawn (term p (f ∷ [])) (answer t v s))
  spawn_grows t v p f =
      let k = goes t (Ret v) s same in
      let ths = (answer t v s).threads in
      let n = length-append ths (thread_with (term p (f ∷ [])) ∷ []) in
      let m = last_frames ths (thread_with (term p (f ∷ []))) in
      (omega (arith, n, k.0), k.1, omega (arith, m, k.2))

  none_counts : (b : Bool) (n : ℕ) → n ≡ 0 → 0 ≡ cond b 0 n
  none_counts true n h = refl
  none_counts false n h = sym h

  changed_grows : {code : Code} {e : Entry} {u : State} → IsNoLocal e → Changes code s e u → Grows s (forked (op_of (doer x e))) (celled (op_of (doer x e))) u
  changed_grows n (change.moves h b l) = absurd n
  changed_grows n (change.blocks {t} {op} w h c b a) = by_its_part h (calm_grows op c same)
  changed_grows n (change.ends {t} {op} p h c i) = by_its_part h (calm_grows op c (goes t p s same))
  changed_grows n (change.prints {t} {x = z} h) = by_its_part h (goes t (Ret UnitValue) (printed z s) same)
  changed_grows n (change.prints_a_line {t} {x = z} h) = by_its_part h (goes t (Ret UnitValue) (printed line_feed (printed z s)) same)
  changed_grows n (change.tells_a_line {t} {x = z} h) = by_its_part h (goes t (Ret UnitValue) (told line_feed (told z s)) same)
  changed_grows n (change.makes {t} {op} v o h m) =
      by_its_part h (makes_grows op m (resume_grows s 0 1 t (Ret v) (with_cell o s) (same.0, length-append s.cells (o ∷ []), same.2)))
  changed_grows n (change.makes_a_timeout {t} h) = by_its_part h (goes t (Ret (Exception (Timeout s.next_timeout))) (record s { next_timeout = suc s.next_timeout }) same)
  changed_grows n (change.acquires {t} h) = by_its_part h (goes t (Ret (Inst s.next_instance)) (record s { marks = AcquiredBy s.next_instance t ∷ s.marks; next_instance = suc s.next_instance }) same)
  changed_grows n (change.releases {t} {i} h) = by_its_part h (goes t (Ret UnitValue) (record s { marks = ReleasedBy i t ∷ s.marks }) same)
  changed_grows n (change.forks {t} m {a} {env} h) = by_its_part h (spawn_grows t (val.Thread (length s.threads)) (Do a env) (MaskIn m))
  changed_grows n (change.forks_unmasked {t} m {r = z} {a} {env} h) = by_its_part h (spawn_grows t (val.Thread (length s.threads)) (Do a (with_name z (val.Restore Unmasked) env)) (MaskIn m))
  changed_grows n (change.receives {t} {f} h o q) = goes t (Throw f.exn) (answer f.thrower UnitValue s) (goes f.thrower (Ret UnitValue) s same)
  changed_grows n (change.wakes {t} q) = goes t (Ret UnitValue) s same
  changed_grows n (change.finishes {t} {th} line h f b) = (
    set_length s.threads t (record { term = th.term; finished = true }) ∙ same.0,
    same.1,
    set_frames s.threads t th (record { term = th.term; finished = true }) h.0 (none_counts th.finished (length th.term.frames) (ap length f)) ∙ same.2,
  )
  changed_grows n (change.ticks q) = same
  changed_grows n change.strands = all_kept (Grows s 0 0) (Throw BlockedIndefinitely) (λ t u. goes t (Throw BlockedIndefinitely) u) (stranded s) s same
  changed_grows {e} n (change.holds c o u k) = set_grows s (forked (op_of (doer x e))) (celled (op_of (doer x e))) c o u (changed_grows n k)
  changed_grows {e} n (change.serves w v u z a k) = resume_grows s (forked (op_of (doer x e))) (celled (op_of (doer x e))) w (Ret v) u (changed_grows n k)
  changed_grows {e} n (change.all p v u k) =
      all_kept (Grows s (forked (op_of (doer x e))) (celled (op_of (doer x e)))) (Ret v) (λ t w. resume_grows s (forked (op_of (doer x e))) (celled (op_of (doer x e))) t (Ret v) w) (those p u.blocked) u (changed_grows n k)

  -- so many threads, cells and frames
  pub next_grows : (code : Code) (u : State) (e : Entry) → IsNoLocal e → next code s e ≡ Some u → Grows s (forked (op_of (doer x e))) (celled (op_of (doer x e))) u
  next_grows code u e n h = changed_grows n (changes code s e u h)

pub entry_grows : (script : Script) (x : SlotState) (s u : State) (e : Entry) → Represents (script_of script) x s → next (code_of (script_of script)) s e ≡ Some u → IsNoLocal e
    → (kind : LimitKind) → used kind u ≡ used kind s + growth kind x e
entry_grows script x s u e r h n limit.Threads = (next_grows (script_of script) x s r (code_of (script_of script)) u e n h).0
entry_grows script x s u e r h n limit.Cells = (next_grows (script_of script) x s r (code_of (script_of script)) u e n h).1
entry_grows script x s u e r h n limit.Frames = (next_grows (script_of script) x s r (code_of (script_of script)) u e n h).2
entry_grows script x s u e r h n limit.Output =
    let k = next_adds (script_of script) x s r (code_of (script_of script)) u e h in
    let a = ap length k.0 ∙ length-append s.output (output_by x e) in
    let b = ap length k.1 ∙ length-append s.errors (errors_by x e) in
    omega (arith, a, b)
