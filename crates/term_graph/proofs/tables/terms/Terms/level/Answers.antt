use Rattle.std.proofs.Common.{ap, arith}
use Rattle.term_graph.specs.tables.Numbered.{Numbered}
use Rattle.term_graph.proofs.tables_lemmas.Stacked.{first_is, level_is}
use Rattle.term_graph.proofs.tables.terms.Terms.level.Goals as goal

-- src/terms.rt
pub returns-then-stack-eq0 : goal.returns-then-stack-eq0
returns-then-stack-eq0 c = λ fs e. first_is c.self.inside.levels c.args.self.now.stacks (ap (λ (g : Numbered). g.stacks) c.self.view_is) c.args.stack fs c.if-stack-eq0.true e

pub returns : goal.returns
returns c = λ fs e. level_is c.self.inside.levels c.args.self.now.stacks (ap (λ (g : Numbered). g.stacks) c.self.view_is) c.self.invariant.0 c.args.stack (omega (arith, c.if-stack-eq0.false)) c.get.result c.get.ensures fs e
