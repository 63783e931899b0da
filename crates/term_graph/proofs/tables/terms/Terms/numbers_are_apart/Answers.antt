use Rattle.std.proofs.Common.{ap, ◌∙◌, slice_get}
use Rattle.term_graph.specs.tables.Numbered.{Numbered}
use Rattle.term_graph.proofs.tables_lemmas.Stacked.{stacks_apart}
use Rattle.term_graph.proofs.tables.terms.Terms.numbers_are_apart.Goals as goal

-- src/terms.rt
pub returns-clause-stacks : goal.returns-clause-stacks
returns-clause-stacks c = λ i j fs d e.
    stacks_apart c.self.inside.levels c.self.invariant.0 c.keys_are_apart.ensures fs i j
    (ap (λ (g : Numbered). slice_get g.stacks i) c.self.view_is ∙ d) (ap (λ (g : Numbered). slice_get g.stacks j) c.self.view_is ∙ e)
