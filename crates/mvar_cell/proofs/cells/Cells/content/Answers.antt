-- The content is stored at the cell's number.
use Rattle.std.proofs.Common.{refl, ap, sym, ◌∙◌, arith}
use Rattle.mvar_cell.specs.declared.cells.Stored.{Stored}
use Rattle.mvar_cell.proofs.Seen.{here_in, stored_at}
use Rattle.mvar_cell.proofs.Steps.{content_is}
use Rattle.mvar_cell.proofs.cells.Cells.content.Goals as goal

pub index-requires : goal.index-requires
index-requires c =
    let h = here_in c.args.m _ _ c.self.inside.lines _ c.self.invariant c.self.view_is c.requires in
    omega (arith, h.stored, c.self.inside.stored.ok.0)

pub returns : goal.returns
returns c =
    let h = here_in c.args.m _ _ c.self.inside.lines _ c.self.invariant c.self.view_is c.requires in
    let stored = stored_at h _ c.index.ensures in
    c.as_ref.ensures.value ∙ ap (λ (s : Stored). s.content) stored ∙ sym (content_is h _ refl)
