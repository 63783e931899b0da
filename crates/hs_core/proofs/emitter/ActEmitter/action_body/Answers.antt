use Rattle.hs_core.specs.Placing.{written}
use Rattle.hs_core.proofs.Openings.{under_names}
use Rattle.hs_core.proofs.emitter.ActEmitter.action_body.Goals as goal

pub returns : goal.returns
returns c = under_names c.args.self.now c.block.new.self (written c.args.params.now) c.len-count.result c.in_ok-bind_params.ensures c.in_ok-id.ensures c.len-count.ensures c.back_to.ensures
