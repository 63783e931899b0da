use Rattle.world_entries.proofs.Performing.{none_made, sleep_made, is_awake}
use Rattle.frame_stack.specs.declared.control.Operation.TheVariants as operation
use Rattle.world_entries.proofs.world.World.delay.Goals as goal

pub returns-then-micros-le0 : goal.returns-then-micros-le0
returns-then-micros-le0 c = none_made c.args.self.now c.args.t c.requires.goes c.answer.new.self c.args.micros c.ranges.micros c.if-micros-le0.true c.requires.stands c.answer.ensures.list c.answer.ensures.flight

pub add-requires-clause-awake : goal.add-requires-clause-awake
add-requires-clause-awake c = is_awake c.args.self.now c.args.t (operation.ThreadDelay c.args.micros) c.requires.live c.requires.stands

pub returns : goal.returns
returns c =
    sleep_made c.args.self.now c.args.t c.requires.goes c.block.new.self c.args.micros c.saturating_add.result c.add.new.self c.ranges.micros c.if-micros-le0.false c.requires.stands
    c.saturating_add.ensures c.add.ensures.list c.block.ensures.list c.block.ensures.flight
