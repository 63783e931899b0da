use Rattle.std.proofs.Common.{◌≡◌, ◌++◌, length, take, drop, refl, ap, ◌∙◌, arith}
use Rattle.std.proofs.Math.Seq.{take-append_seam}
use Rattle.number_moves.specs.Lines.{lines_left}
use Rattle.number_moves.proofs.Leaving.{lines_become}
use Rattle.number_moves.proofs.waiting.leave_lines.Goals as goal

-- src/waiting.rt
pub returns : goal.returns
returns c =
    let old = c.args.state.now.cells in
    let new = c.leave_all.new.cells in
    let size : old.len ≡ length new = omega (arith, old.ok.0, c.leave_all.auto.cells, ap length c.as_mut_slice.ensures.value) in
    let same = ap (λ n. take n (new ++ drop (length new) old.items)) size ∙ take-append_seam new (drop (length new) old.items) in
    lines_become c.args.numbers.now c.args.state.now _ c.args.t _ c.requires refl (same ∙ c.leave_all.ensures ∙ ap (lines_left c.args.t) c.as_mut_slice.ensures.value)
