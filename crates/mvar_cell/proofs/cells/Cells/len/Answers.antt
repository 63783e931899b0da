-- As many cells as contents.
use Rattle.std.proofs.Common.{◌≡◌, List, length, ap, sym, ◌∙◌}
use Rattle.hs_base.specs.declared.value.Value.{Value}
use Rattle.rules_waiting.specs.OneCell.{Cell}
use Rattle.mvar_cell.specs.Mvars.{Mvars, cells_of}
use Rattle.mvar_cell.proofs.Seen.{cells-length}
use Rattle.mvar_cell.proofs.cells.Cells.len.Goals as goal

pub returns : goal.returns
returns c =
    let ss = c.self.inside.stored.items in
    let ls = c.self.inside.lines.lines in
    let seen : cells_of ss ls ≡ c.args.self.now.cells = ap (λ (x : Mvars). x.cells) c.self.view_is in
    c.len.ensures ∙ c.self.inside.stored.ok.0 ∙ sym (cells-length ss ls c.self.invariant.sizes) ∙ ap (λ (cs : List (Cell Value)). length cs) seen
