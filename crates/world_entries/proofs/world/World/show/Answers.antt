use Rattle.std.proofs.Common.{length, refl, ap, ◌∙◌, arith}
use Rattle.std.proofs.lemmas.List.{length_push}
use Rattle.world_entries.specs.declared.world.World.{World}
use Rattle.world_entries.proofs.Showing.{showing_none, showing_more, next_is_at, all_shown, rest_same}
use Rattle.world_entries.proofs.world.World.show.Goals as goal

pub loop-reader-init : goal.loop-reader-init
loop-reader-init c = showing_none c.args.m c.args.self.now c.args.copies.items c.requires.exists c.requires.count c.requires.stand c.requires.room

pub next_reader-requires : goal.next_reader-requires
next_reader-requires c = c.loop-reader.invariant.exists

pub answer-requires-clause-there : goal.answer-requires-clause-there
answer-requires-clause-there c = next_is_at c.in-Some.reader c.args.m c.loop-reader.self c.next_reader.new.self c.loop-reader.invariant.stand c.in-Some.ensures.next

pub answer-requires-clause-room : goal.answer-requires-clause-room
answer-requires-clause-room c =
    let within = c.loop-reader.invariant.within in
    let some = ap length c.in-Some-pop.ensures.items ∙ length_push c.pop.new.self.items c.in-Some-pop.copy in
    omega (arith, within, some)

pub loop-reader-preserved : goal.loop-reader-preserved
loop-reader-preserved c =
    let now = c.loop-reader.self in
    let next : World = record now { threads = c.answer.new.self; cells = c.next_reader.new.self } in
    showing_more c.in-Some.reader c.args.m c.args.self.now now next c.args.copies.items c.loop-reader.copies.items c.pop.new.self.items c.in-Some-pop.copy c.loop-reader.invariant c.in-Some.ensures.next c.in-Some-pop.ensures.items
    c.answer.ensures.list c.answer.ensures.spends c.answer.ensures.flight refl refl refl refl refl c.in-Some.ensures.spare

pub unreachable-requires : goal.unreachable-requires
unreachable-requires c =
    let none = c.in-None.ensures.cases.0 in
    let size = c.loop-reader.copies.ok.0 in
    let count = c.loop-reader.invariant.count ∙ ap length c.in-Some.ensures.next.readers in
    absurd (omega (arith, none, size, count))

pub returns-clause-shown : goal.returns-clause-shown
returns-clause-shown c =
    let none = c.in_default.ensures.next in
    all_shown c.args.m c.args.self.now c.loop-reader.self c.args.copies.items c.loop-reader.copies.items c.next_reader.new.self c.loop-reader.invariant none.0 none.1

pub returns-clause-room : goal.returns-clause-room
returns-clause-room c =
    let room = c.loop-reader.invariant.room in
    omega (arith, room)

pub returns-clause-spare : goal.returns-clause-spare
returns-clause-spare c =
    let before = c.loop-reader.invariant.spare in
    let after = c.next_reader.ensures.spare in
    omega (arith, before, after)

pub returns-clause-rest : goal.returns-clause-rest
returns-clause-rest c = rest_same c.args.self.now c.loop-reader.self c.next_reader.new.self c.loop-reader.invariant.rest
