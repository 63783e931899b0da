use Rattle.rules_expansion.specs.trees.Trees.{ex_of}
use Rattle.hs_core.proofs.Steps.{of_expr}
use Rattle.hs_core.proofs.emitter.ActEmitter.expr.Goals as goal

pub returns : goal.returns
returns c = of_expr c.args.self.now c.expr.new.self c.in_ok-id.id c.args.defs.now (ex_of c.args.e.now) c.in_ok-id.ensures
