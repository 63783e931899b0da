use Rattle.std.proofs.Common.{sym, ◌∙◌, arith}
use Rattle.std.proofs.lemmas.List.Sums.{prefix_len-le-length}
use Rattle.claim_lines.specs.Lines.{separates, is_space_or_tab}
use Rattle.claim_lines.proofs.Heads.{no_first, no_second, at_run, marked}
use Rattle.claim_lines.proofs.lines.behind_mark.Goals as goal

pub past-requires : goal.past-requires
past-requires c = omega (arith, c.blanks_len.ensures, prefix_len-le-length separates c.args.line.now)

pub returns-in_err-first : goal.returns-in_err-first
returns-in_err-first c =
    rw c.from_residual.ensures
    (no_first c.args.line.now (λ more e. c.in_err-first.ensures more (at_run separates c.args.line.now c.past.result.now c.blanks_len.result c.blanks_len.ensures c.past.ensures ∙ e)))

pub returns-in_err-second : goal.returns-in_err-second
returns-in_err-second c =
    rw c.from_residual-in_err-second.ensures
    (no_second c.args.line.now c.in_ok-first.first.now
    (sym (at_run separates c.args.line.now c.past.result.now c.blanks_len.result c.blanks_len.ensures c.past.ensures) ∙ c.in_ok-first.ensures)
    c.in_err-second.ensures)

pub past-requires-2 : goal.past-requires-2
past-requires-2 c = omega (arith, c.spaces_len.ensures, prefix_len-le-length is_space_or_tab c.in_ok-second.second.now)

pub returns : goal.returns
returns c =
    marked c.behind-3.result c.args.line.now c.in_ok-first.first.now c.in_ok-second.second.now c.past-2.result.now
    (sym (at_run separates c.args.line.now c.past.result.now c.blanks_len.result c.blanks_len.ensures c.past.ensures) ∙ c.in_ok-first.ensures)
    c.in_ok-second.ensures
    (at_run is_space_or_tab c.in_ok-second.second.now c.past-2.result.now c.spaces_len.result c.spaces_len.ensures c.past-2.ensures)
    c.behind-3.ensures
