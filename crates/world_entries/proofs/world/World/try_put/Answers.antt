use Rattle.std.proofs.Common.{true, false, [], ◌∷◌, refl, ap, ◌∙◌}
use Rattle.hs_base.specs.declared.value.Value.TheVariants as raw
use Rattle.frame_stack.specs.declared.control.Control.TheVariants as control
use Rattle.frame_stack.specs.declared.control.Operation.TheVariants as operation
use Rattle.rules_waiting.specs.OneCell.{Try_put, Took, Tried_put, reply_of}
use Rattle.hs_eval.proofs.Cases.{value_of-Bool}
use Rattle.thread_table.specs.Table.{slots_of, changed, with_control}
use Rattle.world_entries.proofs.Answering.{told_one, told_two}
use Rattle.world_entries.proofs.Standing.{try_put_cell_is}
use Rattle.world_entries.proofs.Putting.{try_put_whole}
use Rattle.world_entries.proofs.CellEntries.{try_put_law, elsewhere, with_parts}
use Rattle.world_entries.proofs.PutEntries.{still_exists, readers_still_stand, were_shown, mid_exists, mid_unread, caller_is_at, taker_is_at, caller_still_at, answered_makes}
use Rattle.world_entries.proofs.world.World.try_put.Goals as goal

pub copies_for_readers-requires-clause-exists : goal.copies_for_readers-requires-clause-exists
copies_for_readers-requires-clause-exists c = try_put_cell_is c.args.self.now c.requires.live c.args.t c.args.m c.args.v c.requires.stands

pub show-requires-clause-exists : goal.show-requires-clause-exists
show-requires-clause-exists c =
    still_exists c.args.m c.args.self.now c.copies_for_readers.new.self (try_put_cell_is c.args.self.now c.requires.live c.args.t c.args.m c.args.v c.requires.stands) c.in_ok-copies.ensures.cells

pub show-requires-clause-stand : goal.show-requires-clause-stand
show-requires-clause-stand c = readers_still_stand c.args.m c.args.self.now c.copies_for_readers.new.self c.requires.live c.in_ok-copies.ensures.cells c.in_ok-copies.ensures.list

pub try_put-requires-clause-exists : goal.try_put-requires-clause-exists
try_put-requires-clause-exists c =
    let copied = c.in_ok-copies.ensures in
    let h = were_shown c.args.self.now (try_put_cell_is c.args.self.now c.requires.live c.args.t c.args.m c.args.v c.requires.stands) copied.full copied.state copied.cells copied.list (c.show.ensures.shown c.args.v copied.copies.0) c.show.ensures.rest in
    mid_exists h

pub try_put-requires-clause-no_reader : goal.try_put-requires-clause-no_reader
try_put-requires-clause-no_reader c =
    let copied = c.in_ok-copies.ensures in
    let h = were_shown c.args.self.now (try_put_cell_is c.args.self.now c.requires.live c.args.t c.args.m c.args.v c.requires.stands) copied.full copied.state copied.cells copied.list (c.show.ensures.shown c.args.v copied.copies.0) c.show.ensures.rest in
    mid_unread h

pub answer-requires-clause-there : goal.answer-requires-clause-there
answer-requires-clause-there c =
    let copied = c.in_ok-copies.ensures in
    let h = were_shown c.args.self.now (try_put_cell_is c.args.self.now c.requires.live c.args.t c.args.m c.args.v c.requires.stands) copied.full copied.state copied.cells copied.list (c.show.ensures.shown c.args.v copied.copies.0) c.show.ensures.rest in
    caller_is_at h c.requires.live c.args.t (operation.TryPutMVar c.args.m c.args.v) c.requires.stands

pub answer-requires-in-Done-clause-there : goal.answer-requires-in-Done-clause-there
answer-requires-in-Done-clause-there c =
    let copied = c.in_ok-copies.ensures in
    let h = were_shown c.args.self.now (try_put_cell_is c.args.self.now c.requires.live c.args.t c.args.m c.args.v c.requires.stands) copied.full copied.state copied.cells copied.list (c.show.ensures.shown c.args.v copied.copies.0) c.show.ensures.rest in
    caller_is_at h c.requires.live c.args.t (operation.TryPutMVar c.args.m c.args.v) c.requires.stands

pub answer-requires-in-Served-clause-there : goal.answer-requires-in-Served-clause-there
answer-requires-in-Served-clause-there c =
    let copied = c.in_ok-copies.ensures in
    let h = were_shown c.args.self.now (try_put_cell_is c.args.self.now c.requires.live c.args.t c.args.m c.args.v c.requires.stands) copied.full copied.state copied.cells copied.list (c.show.ensures.shown c.args.v copied.copies.0) c.show.ensures.rest in
    taker_is_at h c.requires.live c.args.t (operation.TryPutMVar c.args.m c.args.v) c.requires.stands c.in-Served.taker c.in-Served.ensures.to.1

pub answer-requires-in-Served-2-clause-there : goal.answer-requires-in-Served-2-clause-there
answer-requires-in-Served-2-clause-there c =
    let copied = c.in_ok-copies.ensures in
    let h = were_shown c.args.self.now (try_put_cell_is c.args.self.now c.requires.live c.args.t c.args.m c.args.v c.requires.stands) copied.full copied.state copied.cells copied.list (c.show.ensures.shown c.args.v copied.copies.0) c.show.ensures.rest in
    caller_still_at h c.requires.live c.args.t (operation.TryPutMVar c.args.m c.args.v) c.requires.stands c.in-Served.taker c.in-Served.ensures.to.1 c.answer-in-Served.new.self.list.items (with_control (control.Ret c.in-Served.value)) c.answer-in-Served.ensures.list

pub returns-in-Full-clause-ok : goal.returns-in-Full-clause-ok
returns-in-Full-clause-ok c =
    let mid = c.show.new.self in
    let copied = c.in_ok-copies.ensures in
    let h = were_shown c.args.self.now (try_put_cell_is c.args.self.now c.requires.live c.args.t c.args.m c.args.v c.requires.stands) copied.full copied.state copied.cells copied.list (c.show.ensures.shown c.args.v copied.copies.0) c.show.ensures.rest in
    answered_makes h c.args.t (Try_put c.args.t c.args.v) (with_parts mid c.answer.new.self c.try_put.new.self) (elsewhere mid c.answer.new.self c.try_put.new.self c.answer.ensures.flight) (λ b accepted. try_put_law c.args.self.now c.args.t c.args.m c.requires.goes b accepted c.args.v c.requires.stands) (reply_of c.args.t (Tried_put false)) []
    (try_put_whole c.args.m c.args.self.now.cells mid.cells c.try_put.new.self (reply_of c.args.t (Tried_put false) ∷ []) h.exists h.unread h.cells c.args.t c.args.v (c.in-Full.ensures.call c.args.t))
    (λ b. ap (slots_of b) c.answer.ensures.list ∙ told_one b c.args.t c.args.m c.args.t (raw.Bool false) (Tried_put false) mid.threads.list.items (value_of-Bool false))

pub returns-in-Done-clause-ok : goal.returns-in-Done-clause-ok
returns-in-Done-clause-ok c =
    let mid = c.show.new.self in
    let copied = c.in_ok-copies.ensures in
    let h = were_shown c.args.self.now (try_put_cell_is c.args.self.now c.requires.live c.args.t c.args.m c.args.v c.requires.stands) copied.full copied.state copied.cells copied.list (c.show.ensures.shown c.args.v copied.copies.0) c.show.ensures.rest in
    answered_makes h c.args.t (Try_put c.args.t c.args.v) (with_parts mid c.answer-in-Done.new.self c.try_put.new.self) (elsewhere mid c.answer-in-Done.new.self c.try_put.new.self c.answer-in-Done.ensures.flight) (λ b accepted. try_put_law c.args.self.now c.args.t c.args.m c.requires.goes b accepted c.args.v c.requires.stands) (reply_of c.args.t (Tried_put true)) []
    (try_put_whole c.args.m c.args.self.now.cells mid.cells c.try_put.new.self (reply_of c.args.t (Tried_put true) ∷ []) h.exists h.unread h.cells c.args.t c.args.v (c.in-Done.ensures.call c.args.t))
    (λ b. ap (slots_of b) c.answer-in-Done.ensures.list ∙ told_one b c.args.t c.args.m c.args.t (raw.Bool true) (Tried_put true) mid.threads.list.items (value_of-Bool true))

pub returns-in-Served-clause-ok : goal.returns-in-Served-clause-ok
returns-in-Served-clause-ok c =
    let mid = c.show.new.self in
    let copied = c.in_ok-copies.ensures in
    let h = were_shown c.args.self.now (try_put_cell_is c.args.self.now c.requires.live c.args.t c.args.m c.args.v c.requires.stands) copied.full copied.state copied.cells copied.list (c.show.ensures.shown c.args.v copied.copies.0) c.show.ensures.rest in
    let first = c.answer-in-Served.ensures in
    let last = c.answer-in-Served-2.ensures in
    answered_makes h c.args.t (Try_put c.args.t c.args.v) (with_parts mid c.answer-in-Served-2.new.self c.try_put.new.self) (elsewhere mid c.answer-in-Served-2.new.self c.try_put.new.self (last.flight ∙ first.flight)) (λ b accepted. try_put_law c.args.self.now c.args.t c.args.m c.requires.goes b accepted c.args.v c.requires.stands) (reply_of c.in-Served.taker (Took c.in-Served.value)) (reply_of c.args.t (Tried_put true) ∷ [])
    (try_put_whole c.args.m c.args.self.now.cells mid.cells c.try_put.new.self (reply_of c.in-Served.taker (Took c.in-Served.value) ∷ reply_of c.args.t (Tried_put true) ∷ []) h.exists h.unread h.cells c.args.t c.args.v (c.in-Served.ensures.call c.args.t))
    (λ b.
    ap (slots_of b) (last.list ∙ ap (changed c.args.t (with_control (control.Ret (raw.Bool true)))) first.list)
    ∙ told_two b c.args.t c.args.m c.in-Served.taker c.args.t c.in-Served.value (raw.Bool true) (Took c.in-Served.value) (Tried_put true) mid.threads.list.items refl (value_of-Bool true))
