use Rattle.std.proofs.Common.{true, sym, ap, ◌∙◌}
use Rattle.term_graph.specs.Eager.{is_unmasked}
use Rattle.term_graph.proofs.Going.{leaving_some}
use Rattle.term_graph.proofs.eager.leaving_is_eager.Goals as goal

-- src/eager.rt
pub returns-then-passes : goal.returns-then-passes
returns-then-passes c = λ b fs e.
    let m = c.in-Some.ensures fs e in
    leaving_some b fs m.0 c.in-Some.frame.now true c.is_unmasked-open.result m.2 (sym c.if-passes.true ∙ c.passes-passes.ensures b) (c.is_unmasked-open.ensures ∙ ap is_unmasked (c.mask.ensures m.0 m.1))
