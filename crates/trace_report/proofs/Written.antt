-- The text that is written of a world by its counts is the report.
use Rattle.std.proofs.Common.{◌≡◌, ◌<◌, ℕ, zero, suc, ◌+◌, List, ◌++◌, length, slice_get, refl, sym, ap, ◌∙◌, arith}
use Rattle.hs_rules.specs.declared.entry.Entry.{Entry}
use Rattle.rules_expansion.specs.trees.Programs.{Fn}
use Rattle.rules_code.specs.declared.code.CodeBody.{CodeBody}
use Rattle.hs_rules.specs.State.{State}
use Rattle.hs_rules.specs.Runs.{IsRun}
use Rattle.hs_laws.specs.CellLaw.{outs}
use Rattle.hs_laws.proofs.Lists.{some_item}
use Rattle.slot_states.specs.SlotStates.{Represents}
use Rattle.thread_table.proofs.Table.{slots_count}
use Rattle.world_entries.proofs.CellsOf.{cells_count}
use Rattle.world_entries.specs.declared.world.World.{World}
use Rattle.world_entries.specs.Worlds.{state_of}
use Rattle.trace_report.specs.declared.tally.counts.ThreadCounts.{ThreadCounts}
use Rattle.trace_report.specs.declared.tally.counts.CellCounts.{CellCounts}
use Rattle.trace_report.specs.declared.tally.tally.Tally.{Tally}
use Rattle.trace_report.specs.tally.Reporting.{one_if, local_of, ops_of, waits_of, receives_of, cell_waits, longest, cell_word, thread_line, cell_line, thread_line_of, cell_line_of, lines_below, report_of}
use Rattle.trace_report.specs.tally.Tallying.{Tallies}
use Rattle.trace_report.specs.tally.Touching.{full_in}
use Rattle.trace_report.specs.tally.Words.{word_text}
use Rattle.trace_report.proofs.tally_lemmas.Steps.{ins_are}
use Rattle.trace_report.specs.Looking.{word_at, full_at, thread_text, cell_text}
use Rattle.trace_report.proofs.Shown.{word_shown, full_shown}

lines_same : (f g : ℕ → List ℕ) (n : ℕ) → ((k : ℕ) → k < n → f k ≡ g k) → lines_below f n ≡ lines_below g n
lines_same f g zero h = refl
lines_same f g (suc n) h = ap (λ z. z ++ f n) (lines_same f g n (λ k less. h k (omega (arith, less)))) ∙ ap (λ z. lines_below g n ++ z) (h n (omega arith))

module _ (ds : List Fn) (b : CodeBody) (w : World) (es : List Entry) (s : State) (y : Tally) (run : IsRun ds es s) (r : Represents ds (state_of b w) s) (h : Tallies ds es y) where
  thread_same : (t : ℕ) → thread_text y w t ≡ thread_line_of ds es s t
  thread_same t =
      ap (λ (k : ThreadCounts). thread_line t k.local k.ops k.waits k.receives (word_text (word_at (slice_get w.threads.list.items t)))) (h.threads t)
      ∙ ap (thread_line t (local_of t es) (ops_of t es) (waits_of ds t es) (receives_of t es)) (word_shown ds b w s r t)

  cell_same : (m : ℕ) → m < length s.cells → cell_text y w m ≡ cell_line_of ds es s m
  cell_same m less =
      let o = some_item s.cells m less in
      ap (λ (k : CellCounts). cell_line m (k.out + one_if (full_at (slice_get w.cells.cells m))) k.out k.waits k.longest (cell_word (full_at (slice_get w.cells.cells m)))) (h.cells m)
      ∙ (ap (λ f. cell_line m (length (outs ds es m) + one_if f) (length (outs ds es m)) (cell_waits ds m es) (longest ds m es) (cell_word f)) (full_shown ds b w s r m)
      ∙ ap (λ n. cell_line m n (length (outs ds es m)) (cell_waits ds m es) (longest ds m es) (cell_word (full_in m s))) (sym (ins_are ds es s m o.0 run o.1)))

  threads_many : length w.threads.list.items ≡ length s.threads
  threads_many = sym (slots_count b w.threads.list.items) ∙ r.agrees.count

  cells_many : length w.cells.cells ≡ length s.cells
  cells_many = sym (cells_count w.cells.cells) ∙ r.agrees.made

  pub written : lines_below (thread_text y w) (length w.threads.list.items) ++ lines_below (cell_text y w) (length w.cells.cells) ≡ report_of ds es s
  written =
      ap (λ n. lines_below (thread_text y w) n ++ lines_below (cell_text y w) (length w.cells.cells)) threads_many
      ∙ (ap (λ n. lines_below (thread_text y w) (length s.threads) ++ lines_below (cell_text y w) n) cells_many
      ∙ (ap (λ z. z ++ lines_below (cell_text y w) (length s.cells)) (lines_same (thread_text y w) (thread_line_of ds es s) (length s.threads) (λ t less. thread_same t))
      ∙ ap (λ z. lines_below (thread_line_of ds es s) (length s.threads) ++ z) (lines_same (cell_text y w) (cell_line_of ds es s) (length s.cells) cell_same)))
