use Rattle.rules_expansion.specs.trees.Trees.{exs_of}
use Rattle.hs_core.proofs.Steps.{of_exprs}
use Rattle.hs_core.proofs.emitter.ActEmitter.exprs.Goals as goal

pub returns : goal.returns
returns c = of_exprs c.args.self.now c.all.new.self c.in_ok-ids.ids c.args.defs.now (exs_of c.args.es.now) c.in_ok-ids.ensures
