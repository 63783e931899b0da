-- A cell's line has its number.
use Rattle.std.proofs.Common.{◌≡◌, length, ap, sym, ◌∙◌}
use Rattle.hs_base.specs.declared.value.Value.{Value}
use Rattle.rules_waiting.specs.OneCell.{Cell}
use Rattle.mvar_cell.specs.Mvars.{Mvars, cells_of}
use Rattle.mvar_cell.proofs.Seen.{here_in, cell_seen}
use Rattle.mvar_cell.proofs.cells.Cells.waiting.Goals as goal

pub waiting-requires : goal.waiting-requires
waiting-requires c =
    let h = here_in c.args.m _ _ c.self.inside.lines _ c.self.invariant c.self.view_is c.requires in
    h.lines

pub returns : goal.returns
returns c =
    let ss = c.self.inside.stored.items in
    let ls = c.self.inside.lines.lines in
    let seen : cells_of ss ls ≡ c.args.self.now.cells = ap (λ (x : Mvars). x.cells) c.self.view_is in
    c.waiting.ensures ∙ ap (λ (a : Cell Value). length a.line) (sym (cell_seen c.args.m c.args.self.now ss ls c.self.invariant seen))
