-- The count is stored at the cell's number.
use Rattle.std.proofs.Common.{ap, ◌∙◌, arith}
use Rattle.mvar_cell.specs.declared.cells.Stored.{Stored}
use Rattle.mvar_cell.proofs.Seen.{here_in, stored_at}
use Rattle.mvar_cell.proofs.Steps.{readers_are, full_unread}
use Rattle.mvar_cell.proofs.cells.Cells.readers.Goals as goal

pub index-requires : goal.index-requires
index-requires c =
    let h = here_in c.args.m _ _ c.self.inside.lines _ c.self.invariant c.self.view_is c.requires in
    omega (arith, h.stored, c.self.inside.stored.ok.0)

pub returns-clause-count : goal.returns-clause-count
returns-clause-count c =
    let h = here_in c.args.m _ _ c.self.inside.lines _ c.self.invariant c.self.view_is c.requires in
    let stored = stored_at h _ c.index.ensures in
    ap (λ (s : Stored). s.readers) stored ∙ readers_are h

pub returns-clause-full : goal.returns-clause-full
returns-clause-full c v full =
    let h = here_in c.args.m _ _ c.self.inside.lines _ c.self.invariant c.self.view_is c.requires in
    let stored = stored_at h _ c.index.ensures in
    ap (λ (s : Stored). s.readers) stored ∙ full_unread h v full
