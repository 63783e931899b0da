use Rattle.world_entries.proofs.Performing.{itself_made, finished_made, throw_made, throws_nothing, target_is_there, lent_target}
use Rattle.std.proofs.Common.{refl}
use Rattle.frame_stack.specs.declared.control.Operation.TheVariants as operation
use Rattle.world_entries.proofs.world.World.throw_to.Goals as goal

pub returns-then-target-t : goal.returns-then-target-t
returns-then-target-t c = itself_made c.args.self.now c.args.t c.requires.goes c.throw.new.self c.args.target c.args.e c.if-target-t.true c.requires.stands c.throw.ensures.list c.throw.ensures.flight

pub index-requires : goal.index-requires
index-requires c = target_is_there c.args.self.now c.args.t (operation.ThrowTo c.args.target c.args.e) c.requires.live c.requires.stands c.args.target c.args.e refl

pub returns-then-index : goal.returns-then-index
returns-then-index c =
    let w = c.args.self.now in
    let th = c.index.result.now in
    let there = lent_target w c.args.t (operation.ThrowTo c.args.target c.args.e) c.requires.live c.requires.stands c.args.target c.args.e refl th c.index.ensures in
    finished_made w c.args.t c.requires.goes c.answer.new.self c.args.target c.args.e th there c.if-index.true c.requires.stands c.answer.ensures.list c.answer.ensures.flight

pub throw_at-requires-clause-alone : goal.throw_at-requires-clause-alone
throw_at-requires-clause-alone c = throws_nothing c.args.self.now c.args.t (operation.ThrowTo c.args.target c.args.e) c.requires.live c.requires.stands

pub returns : goal.returns
returns c =
    let w = c.args.self.now in
    let th = c.index.result.now in
    let there = lent_target w c.args.t (operation.ThrowTo c.args.target c.args.e) c.requires.live c.requires.stands c.args.target c.args.e refl th c.index.ensures in
    throw_made w c.args.t c.requires.goes c.block.new.self c.args.target c.args.e th c.if-target-t.false there c.if-index.false c.requires.stands
    c.throw_at.new.self c.throw_at.ensures.list c.throw_at.ensures.flight c.block.ensures.list c.block.ensures.flight
