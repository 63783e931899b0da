use Rattle.std.proofs.Common.{sym, ap, ◌∙◌, slice_get}
use Rattle.term_graph.specs.tables.Numbered.{Numbered}
use Rattle.term_graph.proofs.tables_lemmas.Stacked.{first_stack}
use Rattle.term_graph.proofs.tables.terms.Terms.bare.Goals as goal

-- src/terms.rt
pub returns : goal.returns
returns c = ap (λ (g : Numbered). slice_get g.stacks 0) (sym c.self.view_is) ∙ first_stack c.self.inside.levels
