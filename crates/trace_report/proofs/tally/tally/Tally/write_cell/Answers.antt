use Rattle.std.proofs.Common.{◌++◌, ◌∙◌, ap, string_bytes}
use Rattle.trace_report.specs.tally.Reporting.{cell_head, cell_word, one_if}
use Rattle.trace_report.specs.tally.Tallying.{cell_at}
use Rattle.trace_report.proofs.tally_lemmas.Lines.{cell_written}
use Rattle.trace_report.proofs.tally.tally.Tally.write_cell.Goals as goal

pub returns : goal.returns
returns c =
    cell_written _ _ _ _ c.args.m (one_if c.args.full) c.cell_counts-counts.result (cell_at c.args.self.now.cells.items c.args.m) (cell_word c.args.full) (c.in_ok-write_cell_head.ensures ∙ ap (λ n. string_bytes c.args.text.now ++ cell_head c.args.m n) c.came.ensures) c.in_ok-write_cell_rest.ensures c.in_ok-write_full.ensures c.cell_counts-counts.ensures
