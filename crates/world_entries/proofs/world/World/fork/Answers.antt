use Rattle.frame_stack.specs.declared.control.Operation.TheVariants as operation
use Rattle.world_entries.proofs.Performing.{masked_as}
use Rattle.world_entries.proofs.Forking.{fork_made}
use Rattle.world_entries.proofs.world.World.fork.Goals as goal

pub returns-clause-ok : goal.returns-clause-ok
returns-clause-ok c =
    let w = c.args.self.now in
    let n = c.spawn.ensures in
    fork_made w c.spawn.new.self c.args.t c.requires.goes c.in_ok-stack.stack n.list n.flight n.cells n.sleepers n.counts c.args.action c.args.env c.requires.stands c.mask-mask.result
    (masked_as w c.args.t (operation.Fork c.args.action c.args.env) c.requires.stands c.index.result.now c.index.ensures c.mask-mask.result c.mask-mask.ensures.state)
    c.in_ok-stack.ensures
