use Rattle.frame_stack.specs.declared.control.Operation.TheVariants as operation
use Rattle.world_entries.proofs.Performing.{masked_as}
use Rattle.world_entries.proofs.Forking.{fork_unmask_made}
use Rattle.world_entries.proofs.world.World.fork_unmask.Goals as goal

pub returns-clause-ok : goal.returns-clause-ok
returns-clause-ok c =
    let w = c.args.self.now in
    let n = c.spawn.ensures in
    fork_unmask_made w c.spawn.new.self c.args.t c.requires.goes c.in_ok-stack.stack n.list n.flight n.cells n.sleepers n.counts c.args.action c.args.env c.push.new.self c.requires.stands c.mask-mask.result
    (masked_as w c.args.t (operation.ForkUnmask c.args.action c.args.env) c.requires.stands c.index.result.now c.index.ensures c.mask-mask.result c.mask-mask.ensures.state)
    c.in_ok-push.ensures.ok c.in_ok-stack.ensures
