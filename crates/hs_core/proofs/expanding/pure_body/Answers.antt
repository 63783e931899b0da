use Rattle.rules_expansion.specs.trees.Trees.{ex_of}
use Rattle.hs_core.proofs.Placings.{body_is}
use Rattle.hs_core.proofs.expanding.pure_body.Goals as goal

pub returns : goal.returns
returns c = body_is c.args.places.now.all c.args.emitter.now c.expr.new.self c.bind_params.new.scope c.back_to.new.scope c.in_ok-id.id c.args.params.now (ex_of c.args.e.now) c.len-count.result c.in_ok-bind_params.ensures c.in_ok-id.ensures c.len-count.ensures c.back_to.ensures
