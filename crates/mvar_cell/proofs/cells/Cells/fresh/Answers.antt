-- A cell more, with nobody in its line.
use Rattle.std.proofs.Common.{◌≡◌, List, [], ◌∷◌, ◌++◌, length, ap, sym, subst, ◌∙◌}
use Rattle.hs_base.specs.declared.value.Value.{Value}
use Rattle.rules_waiting.specs.OneCell.{Cell}
use Rattle.mvar_cell.specs.Mvars.{Mvars, AreCells, cells_of}
use Rattle.mvar_cell.proofs.Seen.{cells_fresh, cells-length, cells-push}
use Rattle.mvar_cell.proofs.cells.Cells.fresh.Goals as goal

pub invariant_of-self : goal.invariant_of-self
invariant_of-self c =
    let ss = c.self.inside.stored.items in
    let ls = c.self.inside.lines.lines in
    let seen : cells_of ss ls ≡ c.args.self.now.cells = ap (λ (x : Mvars). x.cells) c.self.view_is in
    subst (λ xs. AreCells xs c.fresh.new.self.lines) (sym c.push_reserved.ensures.items) (subst (AreCells (ss ++ record { content = c.args.first; readers = 0 } ∷ [])) (sym c.fresh.ensures.lines) (cells_fresh ss ls c.args.first c.self.invariant))

pub returns-clause-number : goal.returns-clause-number
returns-clause-number c =
    let ss = c.self.inside.stored.items in
    let ls = c.self.inside.lines.lines in
    let seen : cells_of ss ls ≡ c.args.self.now.cells = ap (λ (x : Mvars). x.cells) c.self.view_is in
    c.len-number.ensures ∙ c.self.inside.stored.ok.0 ∙ sym (cells-length ss ls c.self.invariant.sizes) ∙ ap (λ (cs : List (Cell Value)). length cs) seen

pub returns-clause-cells : goal.returns-clause-cells
returns-clause-cells c =
    let ss = c.self.inside.stored.items in
    let ls = c.self.inside.lines.lines in
    let seen : cells_of ss ls ≡ c.args.self.now.cells = ap (λ (x : Mvars). x.cells) c.self.view_is in
    ap (λ xs. cells_of xs c.fresh.new.self.lines) c.push_reserved.ensures.items ∙ ap (cells_of (ss ++ record { content = c.args.first; readers = 0 } ∷ [])) c.fresh.ensures.lines
    ∙ cells-push ss ls (record { content = c.args.first; readers = 0 }) [] c.self.invariant.sizes ∙ ap (λ cs. cs ++ record { content = c.args.first; line = [] } ∷ []) seen
