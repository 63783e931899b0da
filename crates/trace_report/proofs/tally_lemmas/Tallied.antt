-- The counts after one more entry.
use Rattle.std.proofs.Common.{◌≡◌, ℕ, ◌+◌, ◌==◌, max, List, [], ◌∷◌, ◌++◌, length, true, cond, ◌&&◌, sym, ap, ◌∙◌, subst, arith}
use Rattle.std.proofs.lemmas.Bool.{eqb-true}
use Rattle.hs_rules.specs.declared.entry.Entry.{Entry}
use Rattle.hs_rules.specs.declared.entry.Entry.TheVariants.{Local, Op, Receive}
use Rattle.hs_rules.specs.Entries.{Leads}
use Rattle.hs_rules.specs.Histories.{cost_of}
use Rattle.hs_rules.proofs.Histories.{steps_of_last}
use Rattle.hs_rules.specs.Runs.{IsRun}
use Rattle.hs_rules.specs.State.{State}
use Rattle.hs_laws.specs.CellLaw.{outs}
use Rattle.hs_laws.proofs.Lists.{cond_cases, cond_true, cond_false}
use Rattle.rules_meaning.specs.CoreMeaning.{code_of}
use Rattle.rules_waiting.specs.Waiting.{is_blocked}
use Rattle.rules_expansion.specs.trees.Programs.{Fn}
use Rattle.trace_report.specs.declared.tally.counts.ThreadCounts.{ThreadCounts}
use Rattle.trace_report.specs.declared.tally.counts.CellCounts.{CellCounts}
use Rattle.trace_report.specs.declared.tally.counts.Seen.{Seen}
use Rattle.trace_report.specs.declared.tally.tally.Tally.{Tally}
use Rattle.trace_report.specs.tally.Reporting.{one_if, local_by, op_by, receive_by, wait_by, local_of, ops_of, receives_of, waits_of, cell_waits, longest, line_length}
use Rattle.trace_report.specs.tally.Touching.{is_on, waits_there, serves, full_in}
use Rattle.trace_report.specs.tally.Tallying.{thread_after, touched, op_after, cell_after, IsCounted, Tallies, SeesOp, Sees}
use Rattle.trace_report.proofs.tally_lemmas.Sums.{total_more, total_of_more}
use Rattle.trace_report.proofs.tally_lemmas.Steps.{OpAdds, op_adds, IsNoOp, other_adds}

same_thread : (c : ThreadCounts) (l o w r : ℕ) → c.local ≡ l → c.ops ≡ o → c.waits ≡ w → c.receives ≡ r → c ≡ record { local = l; ops = o; waits = w; receives = r }
same_thread c l o w r a b d e = λ i. record { local = a i; ops = b i; waits = d i; receives = e i }

same_cell : (c : CellCounts) (o w l : ℕ) → c.out ≡ o → c.waits ≡ w → c.longest ≡ l → c ≡ record { out = o; waits = w; longest = l }
same_cell c o w l a b d = λ i. record { out = a i; waits = b i; longest = d i }

-- ---- of a thread
module _ (ds : List Fn) (es : List Entry) (s u : State) (t : ℕ) (run : IsRun ds es s) where
  abbrev before : ThreadCounts
  before = record { local = local_of t es; ops = ops_of t es; waits = waits_of ds t es; receives = receives_of t es }

  abbrev Becomes : Entry → ThreadCounts → Type 0
  Becomes e c = c ≡ record { local = local_of t (es ++ e ∷ []); ops = ops_of t (es ++ e ∷ []); waits = waits_of ds t (es ++ e ∷ []); receives = receives_of t (es ++ e ∷ []) }

  by_adding : (e : Entry) (c : ThreadCounts) → Leads (code_of ds) s e u → c.local ≡ before.local + local_by t e → c.ops ≡ before.ops + op_by t e → c.waits ≡ before.waits + wait_by t e u → c.receives ≡ before.receives + receive_by t e → Becomes e c
  by_adding e c leads a b d r =
      same_thread c _ _ _ _ (a ∙ sym (total_more (local_by t) es e)) (b ∙ sym (total_more (op_by t) es e)) (d ∙ sym (total_of_more (wait_by t) ds es s u e run leads.0)) (r ∙ sym (total_more (receive_by t) es e))

  thread_goes_on : (e : Entry) (seen : Seen) → Leads (code_of ds) s e u → Sees e s u seen → Becomes e (thread_after e seen.blocked t before)
  thread_goes_on (Local k n) seen leads sees =
      cond_cases (Becomes (Local k n)) (k == t) (record before { local = before.local + n }) before
      (λ on. by_adding (Local k n) _ leads (ap (λ z. before.local + z) (sym (cond_true (k == t) n 0 on))) (omega arith) (omega arith) (omega arith))
      (λ off. by_adding (Local k n) _ leads (let z = cond_false (k == t) n 0 off in omega (arith, z)) (omega arith) (omega arith) (omega arith))
  thread_goes_on (Op k) seen leads sees =
      cond_cases (Becomes (Op k)) (k == t) (record before { ops = before.ops + 1; waits = before.waits + one_if seen.blocked }) before
      (λ on. by_adding (Op k) _ leads (omega arith) (ap (λ z. before.ops + z) (sym (ap one_if on))) (ap (λ z. before.waits + z) (here on)) (omega arith))
      (λ off. by_adding (Op k) _ leads (omega arith) (let z = ap one_if off in omega (arith, z)) (let z = cond_false (k == t) (one_if (is_blocked t u.blocked)) 0 off in omega (arith, z)) (omega arith))
    where
      here : (k == t) ≡ true → one_if seen.blocked ≡ cond (k == t) (one_if (is_blocked t u.blocked)) 0
      here on = ap one_if (sees.blocked ∙ ap (λ x. is_blocked x u.blocked) (eqb-true k t on)) ∙ sym (cond_true (k == t) (one_if (is_blocked t u.blocked)) 0 on)
  thread_goes_on (Receive k) seen leads sees =
      cond_cases (Becomes (Receive k)) (k == t) (record before { receives = before.receives + 1 }) before
      (λ on. by_adding (Receive k) _ leads (omega arith) (omega arith) (omega arith) (ap (λ z. before.receives + z) (sym (ap one_if on))))
      (λ off. by_adding (Receive k) _ leads (omega arith) (omega arith) (omega arith) (let z = ap one_if off in omega (arith, z)))
  thread_goes_on e seen leads sees = by_adding e _ leads (omega arith) (omega arith) (omega arith) (omega arith)

-- ---- of a cell
module _ (ds : List Fn) (es : List Entry) (s u : State) (m : ℕ) (run : IsRun ds es s) where
  abbrev cell_before : CellCounts
  cell_before = record { out = length (outs ds es m); waits = cell_waits ds m es; longest = longest ds m es }

  abbrev CellBecomes : Entry → CellCounts → Type 0
  CellBecomes e c = c ≡ record { out = length (outs ds (es ++ e ∷ []) m); waits = cell_waits ds m (es ++ e ∷ []); longest = longest ds m (es ++ e ∷ []) }

  other_goes_on : (e : Entry) → IsNoOp e → Leads (code_of ds) s e u → CellBecomes e cell_before
  other_goes_on e n leads = let k = other_adds ds es s u e m run leads.0 n in same_cell cell_before _ _ _ (sym k.outs) (sym k.waits) (sym k.longest)

  op_goes_on : (t : ℕ) (seen : Seen) → SeesOp t s u seen → OpAdds ds es t seen.touch s u m → CellBecomes (Op t) (op_after seen m cell_before)
  op_goes_on t seen sees adds =
      cond_cases (CellBecomes (Op t)) (is_on m seen.touch) (touched seen cell_before) cell_before
      (λ on. same_cell (touched seen cell_before) _ _ _
      (sym (adds.outs ∙ (ap (λ z. cell_before.out + one_if (z && serves seen.touch (full_in m s) (full_in m u))) on ∙ (ap (λ z. cell_before.out + one_if (serves seen.touch z (full_in m u))) (sym (sees.was_full m on)) ∙ ap (λ z. cell_before.out + one_if (serves seen.touch seen.was_full z)) (sym (sees.is_full m on))))))
      (sym (adds.waits ∙ (ap (λ z. cell_before.waits + one_if (z && waits_there seen.touch (full_in m s))) on ∙ ap (λ z. cell_before.waits + one_if (waits_there seen.touch z)) (sym (sees.was_full m on)))))
      (sym (adds.longest ∙ (cond_true (is_on m seen.touch) (max (longest ds m es) (line_length m u)) (longest ds m es) on ∙ ap (max (longest ds m es)) (sym (sees.line m on))))))
      (λ off.
      let a = adds.outs ∙ ap (λ z. cell_before.out + one_if (z && serves seen.touch (full_in m s) (full_in m u))) off in
      let b = adds.waits ∙ ap (λ z. cell_before.waits + one_if (z && waits_there seen.touch (full_in m s))) off in
      same_cell cell_before _ _ _ (omega (arith, a)) (omega (arith, b)) (sym (adds.longest ∙ cond_false (is_on m seen.touch) (max (longest ds m es) (line_length m u)) (longest ds m es) off)))

  cell_goes_on : (e : Entry) (seen : Seen) → Leads (code_of ds) s e u → Sees e s u seen → CellBecomes e (cell_after e seen m cell_before)
  cell_goes_on (Op t) seen leads sees = op_goes_on t seen sees (subst (λ h. OpAdds ds es t h s u m) (sym sees.touch) (op_adds ds es s u t m run leads.0))
  cell_goes_on e seen leads sees = other_goes_on e tt leads

pub tallied : (ds : List Fn) (es : List Entry) (s u : State) (e : Entry) (seen : Seen) (old new : Tally) → IsRun ds es s → Leads (code_of ds) s e u → Sees e s u seen → Tallies ds es old → IsCounted e seen old new → Tallies ds (es ++ e ∷ []) new
tallied ds es s u e seen old new run leads sees h k = record {
  steps = k.steps ∙ (ap (λ z. z + cost_of e) h.steps ∙ sym (steps_of_last es e));
  threads = λ t. k.threads t ∙ (ap (thread_after e seen.blocked t) (h.threads t) ∙ thread_goes_on ds es s u t run e seen leads sees);
  cells = λ m. k.cells m ∙ (ap (cell_after e seen m) (h.cells m) ∙ cell_goes_on ds es s u m run e seen leads sees);
}
