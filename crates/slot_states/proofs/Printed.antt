-- What entries print: no entry changes what is printed but the operations that print and an end by an exception.
use Rattle.std.proofs.Common.{◌≡◌, ℕ, List, [], ◌∷◌, ◌++◌, append-nil, append_assoc, slice_get, Option, Some, None, refl, sym, ap, ◌∙◌}
use Rattle.hs_base.specs.declared.exn.Exn.TheVariants.{BlockedIndefinitely}
use Rattle.hs_rules.specs.declared.entry.Entry.{Entry}
use Rattle.rules_expansion.specs.trees.Trees.{T}
use Rattle.rules_expansion.specs.trees.Programs.{Fn}
use Rattle.rules_expansion.specs.Core.{Core}
use Rattle.rules_expansion.specs.declared.primitive.Primitive.TheVariants.{PutStr, PutStrLn, HPutStrLn, NewMVar, NewEmptyMVar}
use Rattle.rules_meaning.specs.CoreMeaning.{Code, code_of}
use Rattle.rules_sorts.specs.Sorts.{Sort}
use Rattle.hs_rules.specs.Terms.{Operation, Calls, Forks, ForksUnmask, Part, Ret, Throw, Performs}
use Rattle.hs_rules.specs.State.{State}
use Rattle.hs_rules.specs.Primitives.{line_feed}
use Rattle.hs_rules.specs.Entries.{stranded, next, Leads}
use Rattle.hs_rules.specs.Runs.{begun, then_next, IsRun, out, err}
use Rattle.hs_rules.specs.Runs as runs
use Rattle.rules_expansion.specs.Expansion.{main_of}
use Rattle.hs_laws.proofs.Lists.{those}
use Rattle.hs_laws.proofs.RunParts.{is_after, run_more}
use Rattle.hs_laws.proofs.Changes as change
use Rattle.hs_laws.proofs.Changes.{Changes, Stands, Calm, Makes, EndsBy, all_kept, changes}
use Rattle.slot_laws.specs.SlotRules.{calls, SlotPart}
use Rattle.slot_laws.specs.Standing.{PartStands, ret_stands, throw_stands, do_stands, op_stands, calls_stands, forks_stands, forks_unmask_stands}
use Rattle.slot_states.specs.SlotStates.{SlotState, Represents}
use Rattle.slot_states.specs.Printing.{op_output, op_errors, output_of, errors_of, part_output, part_errors, line_by, end_line, output_by, errors_by}
use Rattle.slot_states.proofs.Reading.{slotted_of}

-- ---- what an operation of the rules prints
abbrev prints_of : Operation → List ℕ
prints_of (Calls w vs) = op_output (calls w vs)
prints_of op = []

abbrev tells_of : Operation → List ℕ
tells_of (Calls w vs) = op_errors (calls w vs)
tells_of op = []

module _ {cells : ℕ → T → Type 0} {ds : List Fn} where
  stands_prints : {p : SlotPart} {q : Part} {k : Sort} {op : Operation} → PartStands cells ds p q k → q ≡ Performs op → (output_of p ≡ prints_of op) × (errors_of p ≡ tells_of op)
  stands_prints {op} (op_stands (calls_stands {p} {vs = vs} b h)) e = let same : Calls p vs ≡ op = cc e in (ap prints_of same, ap tells_of same)
  stands_prints {op} (op_stands (forks_stands {a} {env} r)) e = let same : Forks a env ≡ op = cc e in (ap prints_of same, ap tells_of same)
  stands_prints {op} (op_stands (forks_unmask_stands {r} {a} {env} w)) e = let same : ForksUnmask r a env ≡ op = cc e in (ap prints_of same, ap tells_of same)
  stands_prints _ e = absurd (cc e)

  stands_tells : (t : ℕ) (line : List ℕ) {p : SlotPart} {q : Part} {k : Sort} → PartStands cells ds p q k → EndsBy t q line → line ≡ line_by t p
  stands_tells t line (ret_stands h) e = e
  stands_tells t line throw_stands e = e
  stands_tells t line (do_stands r) e = absurd e
  stands_tells t line (op_stands h) e = absurd e

-- ---- entries
module _ (ds : List Fn) (x : SlotState) (s : State) (r : Represents ds x s) where
  -- it has printed what s has and this
  abbrev Adds : List ℕ → List ℕ → State → Type 0
  Adds o e u = (u.output ≡ s.output ++ o) × (u.errors ≡ s.errors ++ e)

  silent : Adds [] [] s
  silent = (sym (append-nil s.output), sym (append-nil s.errors))

  by_its_part : {t : ℕ} {op : Operation} {o e : List ℕ} → Stands s t op → (o ≡ s.output ++ prints_of op) × (e ≡ s.errors ++ tells_of op)
      → (o ≡ s.output ++ part_output (slice_get x.threads t)) × (e ≡ s.errors ++ part_errors (slice_get x.threads t))
  by_its_part {t} h k =
      let f = slotted_of ds x s r t h.th h.is in
      let w = stands_prints f.4.0 h.part in
      (k.0 ∙ ap (λ z. s.output ++ z) (sym (ap part_output f.1 ∙ w.0)), k.1 ∙ ap (λ z. s.errors ++ z) (sym (ap part_errors f.1 ∙ w.1)))

  calm_silent : (op : Operation) → Calm op → Adds (prints_of op) (tells_of op) s
  calm_silent (Calls PutStr vs) c = absurd c
  calm_silent (Calls PutStrLn vs) c = absurd c
  calm_silent (Calls HPutStrLn vs) c = absurd c
  calm_silent op c = silent

  makes_silent : (op : Operation) → Makes op → Adds (prints_of op) (tells_of op) s
  makes_silent (Calls NewMVar vs) m = silent
  makes_silent (Calls NewEmptyMVar vs) m = silent
  makes_silent op m = absurd m

  changed_adds : {code : Code} {e : Entry} {u : State} → Changes code s e u → Adds (output_by x e) (errors_by x e) u
  changed_adds (change.moves h b l) = silent
  changed_adds (change.blocks {op} w h c b a) = by_its_part h (calm_silent op c)
  changed_adds (change.ends {op} p h c i) = by_its_part h (calm_silent op c)
  changed_adds (change.prints h) = by_its_part h (refl, silent.1)
  changed_adds (change.prints_a_line {x = z} h) = by_its_part h (append_assoc s.output z line_feed, silent.1)
  changed_adds (change.tells_a_line {x = z} h) = by_its_part h (silent.0, append_assoc s.errors z line_feed)
  changed_adds (change.makes {op} v o h m) = by_its_part h (makes_silent op m)
  changed_adds (change.makes_a_timeout h) = by_its_part h silent
  changed_adds (change.acquires h) = by_its_part h silent
  changed_adds (change.releases h) = by_its_part h silent
  changed_adds (change.forks m h) = by_its_part h silent
  changed_adds (change.forks_unmasked m h) = by_its_part h silent
  changed_adds (change.receives h o q) = silent
  changed_adds (change.wakes q) = silent
  changed_adds (change.finishes {t} {th} line h f b) =
      let k = slotted_of ds x s r t th h.0 in
      (silent.0, ap (λ z. s.errors ++ z) (stands_tells t line k.4.0 b ∙ sym (ap (end_line t) k.1)))
  changed_adds (change.ticks q) = silent
  changed_adds change.strands = all_kept (Adds [] []) (Throw BlockedIndefinitely) (λ t u h. h) (stranded s) s silent
  changed_adds (change.holds c o u k) = changed_adds k
  changed_adds (change.serves w v u z a k) = changed_adds k
  changed_adds {e} (change.all p v u k) = all_kept (Adds (output_by x e) (errors_by x e)) (Ret v) (λ t w h. h) (those p u.blocked) u (changed_adds k)

  -- an entry adds what the thread that it is of prints
  pub next_adds : (code : Code) (u : State) (e : Entry) → next code s e ≡ Some u → (u.output ≡ s.output ++ output_by x e) × (u.errors ≡ s.errors ++ errors_by x e)
  next_adds code u e n = changed_adds (changes code s e u n)

-- ---- histories
begins : (o : Option Core) → (runs.output_of (then_next (begun o) (λ s. Some s)) ≡ []) × (runs.errors_of (then_next (begun o) (λ s. Some s)) ≡ [])
begins None = (refl, refl)
begins (Some main) = (refl, refl)

-- an empty history prints nothing
pub nothing_yet : (ds : List Fn) → (out ds [] ≡ []) × (err ds [] ≡ [])
nothing_yet ds = begins (main_of ds)

-- a run prints what its last state has printed
pub run_prints : (ds : List Fn) (es : List Entry) (s : State) → IsRun ds es s → (out ds es ≡ s.output) × (err ds es ≡ s.errors)
run_prints ds es s run = let a = is_after ds es s run in (ap runs.output_of a, ap runs.errors_of a)

-- and one more entry adds to that
pub entry_adds : (ds : List Fn) (es : List Entry) (s u : State) (e : Entry) (x : SlotState) → IsRun ds es s → Represents ds x s → Leads (code_of ds) s e u →
    (out ds (es ++ e ∷ []) ≡ out ds es ++ output_by x e) × (err ds (es ++ e ∷ []) ≡ err ds es ++ errors_by x e)
entry_adds ds es s u e x run r l =
    let before = run_prints ds es s run in
    let after = run_prints ds (es ++ e ∷ []) u (run_more ds es e s u run l) in
    let adds = next_adds ds x s r (code_of ds) u e l.0 in
    (after.0 ∙ (adds.0 ∙ ap (λ z. z ++ output_by x e) (sym before.0)), after.1 ∙ (adds.1 ∙ ap (λ z. z ++ errors_by x e) (sym before.1)))
