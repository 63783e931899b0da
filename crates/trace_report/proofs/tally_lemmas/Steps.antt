-- What one more entry adds to the numbers of a cell, by what can be seen of the states before and after it.
use Rattle.std.proofs.Common.{◌≡◌, ℕ, ◌+◌, max, List, [], ◌∷◌, ◌++◌, length, false, cond, ◌&&◌, Option, Some, None, slice_get, refl, sym, ap, ◌∙◌, subst, arith, length-append}
use Rattle.std.proofs.lemmas.List.{append-nil}
use Rattle.hs_base.specs.declared.mask.Mask.{Mask}
use Rattle.hs_rules.specs.declared.entry.Entry.{Entry}
use Rattle.hs_rules.specs.declared.entry.Entry.TheVariants as entry
use Rattle.rules_expansion.specs.trees.Programs.{Fn}
use Rattle.rules_expansion.specs.Core.{Core}
use Rattle.rules_expansion.specs.Expansion.{main_of}
use Rattle.rules_meaning.specs.Values.{V, UnitValue}
use Rattle.rules_meaning.specs.CoreMeaning.{Code, code_of}
use Rattle.rules_waiting.specs.Waiting.{leaves, reason_of, is_blocked, flying_to, flight_of}
use Rattle.hs_rules.specs.Terms.{Operation, Ret, Throw}
use Rattle.hs_base.specs.declared.exn.Exn.TheVariants.{BlockedIndefinitely}
use Rattle.hs_rules.specs.State.{State}
use Rattle.hs_rules.specs.Entries.{next, stranded, throwers}
use Rattle.hs_rules.specs.Runs.{first_of, begun, IsRun}
use Rattle.hs_laws.specs.cases.Cases.{Performs, Enters, local, operation, receives_while_it_runs, receives_while_it_waits, wakes, finishes_by_a_value, main_finishes_by_an_exception, finishes_silently, finishes_with_a_line, ticks, strands}
use Rattle.hs_laws.proofs.cases_lemmas.Entering.{case_of}
use Rattle.hs_laws.specs.CellLaw.{operation_calls, part_calls, thread_calls, calls_of, after_calls, held, outs_by, calls_after, unmade, alone, ins, outs}
use Rattle.hs_laws.proofs.Lists.{cond_cases}
use Rattle.hs_laws.proofs.RunParts.{is_after, run_more}
use Rattle.hs_laws.proofs.Expanded.{cells_law}
use Rattle.trace_report.specs.declared.tally.touch.Touch.{Touch}
use Rattle.trace_report.specs.tally.Reporting.{total_after, total_of, greatest_after, one_if, cell_wait_by, cell_waits, line_length, longest, is_full}
use Rattle.trace_report.specs.tally.Touching.{part_touch, thread_touch, touch_of, is_on, waits_there, serves, full_in}
use Rattle.trace_report.proofs.tally_lemmas.Sums.{total_of_more, greatest_of_more, greatest_last, alone_more, outs_more}
use Rattle.trace_report.proofs.tally_lemmas.Leaving.{Lost, lost_none, lost_both, lost_one, lost_all, free_stands}
use Rattle.trace_report.proofs.tally_lemmas.Serving.{none_out}
use Rattle.hs_laws.proofs.CellRuns.{OnlyLeaves, leave_only, leaves_only}
use Rattle.trace_report.proofs.tally_lemmas.Operating.{Performed, performs, comes_out}

-- ---- the cell alone is the cell of the state
content_of : (ds : List Fn) (es : List Entry) (s : State) (m : ℕ) (o : Option V) → IsRun ds es s → slice_get s.cells m ≡ Some o → slice_get s.cells m ≡ Some (alone ds es m).content
content_of ds es s m o run h = ((cells_law ds es s run).kept es [] s m o (sym (append-nil es)) (is_after ds es s run) h).shows.content

held_length : (o : Option V) → length (held o) ≡ one_if (is_full (Some o))
held_length None = refl
held_length (Some a) = refl

-- what went in is what came out, and one more where the cell is full
pub ins_are : (ds : List Fn) (es : List Entry) (s : State) (m : ℕ) (o : Option V) → IsRun ds es s → slice_get s.cells m ≡ Some o → length (ins ds es m) ≡ length (outs ds es m) + one_if (full_in m s)
ins_are ds es s m o run h =
    let k = (cells_law ds es s run).kept es [] s m o (sym (append-nil es)) (is_after ds es s run) h in
    ap length (sym k.in_order)
    ∙ (length-append (outs ds es m) (held (alone ds es m).content)
    ∙ ap (λ n. length (outs ds es m) + n) (held_length (alone ds es m).content ∙ ap (λ z. one_if (is_full z)) (sym k.shows.content)))

-- ---- an operation
pub record Did (t : ℕ) (s u : State) : Type 0 where
  pub op : Operation
  pub mask : Mask
  pub performed : Performs t mask op s u
  pub calls : (m : ℕ) → calls_of m s (entry.Op t) ≡ operation_calls m (length s.cells) t op
  pub touch : thread_touch (slice_get s.threads t) ≡ touch_of op
  pub free : is_blocked t s.blocked ≡ false

pub did : {code : Code} {t : ℕ} {s u : State} → Enters code s (entry.Op t) u → Did t s u
did {t} {s} (operation main unfinished free part performed) = record {
  op = _;
  mask = _;
  performed = performed;
  calls = λ m. ap (thread_calls m (length s.cells) t) unfinished.0 ∙ ap (part_calls m (length s.cells) t) part;
  touch = ap thread_touch unfinished.0 ∙ ap part_touch part;
  free = free;
}

-- the numbers of cell m, by what thread t stood at, and by whether the cell was full and is full now
pub record OpAdds (ds : List Fn) (es : List Entry) (t : ℕ) (h : Touch) (s u : State) (m : ℕ) : Type 0 where
  pub outs : length (outs ds (es ++ entry.Op t ∷ []) m) ≡ length (outs ds es m) + one_if (is_on m h && serves h (full_in m s) (full_in m u))
  pub waits : cell_waits ds m (es ++ entry.Op t ∷ []) ≡ cell_waits ds m es + one_if (is_on m h && waits_there h (full_in m s))
  pub longest : longest ds m (es ++ entry.Op t ∷ []) ≡ cond (is_on m h) (max (longest ds m es) (line_length m u)) (longest ds m es)

module _ (ds : List Fn) (es : List Entry) (s u : State) (t m : ℕ) (run : IsRun ds es s) (n : next (code_of ds) s (entry.Op t) ≡ Some u) where
  op_adds_by : (d : Did t s u) → OpAdds ds es t (touch_of d.op) s u m
  op_adds_by d =
      let p : Performed t (touch_of d.op) s u = performs d.performed (λ k. free_stands k t s.blocked d.free) in
      let after = alone_more ds m es s u (entry.Op t) run n ∙ ap (λ qs. after_calls qs (alone ds es m)) (d.calls m) in
      let later = run_more ds es (entry.Op t) s u run (n, tt) in
      let came =
      comes_out d.performed m (length s.cells) (alone ds es m)
      (λ on.
      let there = p.there m on in
      (content_of ds es s m there.0 run there.2, content_of ds (es ++ entry.Op t ∷ []) u m there.1 later there.3 ∙ ap (λ c. Some c.content) after)) in
      let most = greatest_of_more (line_length m) ds es s u (entry.Op t) run n in
      let last = greatest_last (line_length m) ds es s run in
      record {
        outs = outs_more ds m es s u (entry.Op t) run n ∙ ap (λ k. length (outs ds es m) + k) (ap (λ qs. length (outs_by qs (alone ds es m))) (d.calls m) ∙ came);
        waits = total_of_more (cell_wait_by m) ds es s u (entry.Op t) run n ∙ ap (λ b. cell_waits ds m es + one_if b) (p.stands m);
        longest = cond_cases (λ z. longest ds m (es ++ entry.Op t ∷ []) ≡ z) (is_on m (touch_of d.op)) (max (longest ds m es) (line_length m u)) (longest ds m es) (λ on. most)
            (λ off. let k = p.shorter m off in omega (arith, most, last, k));
      }

  pub op_adds : OpAdds ds es t (thread_touch (slice_get s.threads t)) s u m
  op_adds = let d = did (case_of (code_of ds) s (entry.Op t) u n) in subst (λ h. OpAdds ds es t h s u m) (sym d.touch) (op_adds_by d)

-- ---- any other entry
abbrev pub IsNoOp : Entry → Type 0
IsNoOp (entry.Op t) = ⊥
IsNoOp _ = Unit {0}

others_lose : {code : Code} {s : State} {e : Entry} {u : State} → Enters code s e u → IsNoOp e → Lost s.blocked u.blocked
others_lose {s} (local m f b e) n = lost_none s.blocked
others_lose (operation m f b e p) n = absurd n
others_lose {s} (receives_while_it_runs {t} {f} m h x b k e) n = lost_both s.blocked (leaves f.thrower s.blocked) (leaves t (leaves f.thrower s.blocked)) (lost_one f.thrower s.blocked) (lost_one t (leaves f.thrower s.blocked))
others_lose {s} (receives_while_it_waits {t} {f} m h x b k e) n = lost_both s.blocked (leaves f.thrower s.blocked) (leaves t (leaves f.thrower s.blocked)) (lost_one f.thrower s.blocked) (lost_one t (leaves f.thrower s.blocked))
others_lose {s} (wakes {t} m e d) n = lost_one t s.blocked
others_lose {s} (finishes_by_a_value {t} {th} m f x e) n = lost_all (throwers (flying_to t (flight_of s.blocked))) (Ret UnitValue) (record s { threads = _ })
others_lose {s} (main_finishes_by_an_exception {th} f x e) n = lost_all (throwers (flying_to 0 (flight_of s.blocked))) (Ret UnitValue) (record s { threads = _; errors = _ })
others_lose {s} (finishes_silently {t} {th} m f x e q) n = lost_all (throwers (flying_to _ (flight_of s.blocked))) (Ret UnitValue) (record s { threads = _ })
others_lose {s} (finishes_with_a_line {t} {th} m f x e q) n = lost_all (throwers (flying_to _ (flight_of s.blocked))) (Ret UnitValue) (record s { threads = _; errors = _ })
others_lose {s} (ticks m e) n = lost_none s.blocked
others_lose {s} (strands {t} {ts} m e w) n = lost_all (t ∷ ts) (Throw BlockedIndefinitely) s

others_leave : (m : ℕ) (s : State) (e : Entry) → IsNoOp e → OnlyLeaves (calls_of m s e)
others_leave m s (entry.Op t) n = absurd n
others_leave m s (entry.Receive t) n = leave_only m t (reason_of t s.blocked)
others_leave m s entry.Stranded n = leaves_only m (stranded s) s.blocked
others_leave m s _ n = tt

no_wait : (m : ℕ) (e : Entry) (u : State) → IsNoOp e → cell_wait_by m e u ≡ 0
no_wait m (entry.Op t) u n = absurd n
no_wait m _ u n = refl

-- the numbers of cell m stay as they are
pub record AddsNothing (ds : List Fn) (es : List Entry) (e : Entry) (m : ℕ) : Type 0 where
  pub outs : length (outs ds (es ++ e ∷ []) m) ≡ length (outs ds es m)
  pub waits : cell_waits ds m (es ++ e ∷ []) ≡ cell_waits ds m es
  pub longest : longest ds m (es ++ e ∷ []) ≡ longest ds m es

pub other_adds : (ds : List Fn) (es : List Entry) (s u : State) (e : Entry) (m : ℕ) → IsRun ds es s → next (code_of ds) s e ≡ Some u → IsNoOp e → AddsNothing ds es e m
other_adds ds es s u e m run n isnt =
    let out = outs_more ds m es s u e run n in
    let none = ap length (none_out (calls_of m s e) (alone ds es m) (others_leave m s e isnt)) in
    let wait = total_of_more (cell_wait_by m) ds es s u e run n in
    let still = no_wait m e u isnt in
    let most = greatest_of_more (line_length m) ds es s u e run n in
    let last = greatest_last (line_length m) ds es s run in
    let lost = (others_lose (case_of (code_of ds) s e u n) isnt).shorter m in
    record { outs = omega (arith, out, none); waits = omega (arith, wait, still); longest = omega (arith, most, last, lost) }

-- ---- before the first entry
total_none : (f : Entry → State → ℕ) (code : Code) (o : Option State) → total_after f code o [] ≡ 0
total_none f code None = refl
total_none f code (Some s) = refl

pub total_begun : (f : Entry → State → ℕ) (ds : List Fn) → total_of f ds [] ≡ 0
total_begun f ds = total_none f (code_of ds) (first_of ds)

outs_none : (code : Code) (m : ℕ) (o : Option State) → length (outs_by (calls_after o code m []) unmade) ≡ 0
outs_none code m None = refl
outs_none code m (Some s) = refl

pub outs_begun : (ds : List Fn) (m : ℕ) → length (outs ds [] m) ≡ 0
outs_begun ds m = outs_none (code_of ds) m (first_of ds)

longest_none : (code : Code) (m : ℕ) (o : Option Core) → greatest_after (line_length m) code (begun o) [] ≡ 0
longest_none code m None = refl
longest_none code m (Some main) = refl

pub longest_begun : (ds : List Fn) (m : ℕ) → longest ds m [] ≡ 0
longest_begun ds m = longest_none (code_of ds) m (main_of ds)
