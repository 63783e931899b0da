use Rattle.std.proofs.Common.{[], ◌∷◌, refl, ap, ◌∙◌}
use Rattle.hs_base.specs.declared.value.Value.TheVariants as raw
use Rattle.frame_stack.specs.declared.control.Control.TheVariants as control
use Rattle.frame_stack.specs.declared.control.Operation.TheVariants as operation
use Rattle.rules_waiting.specs.OneCell.{Put, Took, Gave, reply_of}
use Rattle.hs_eval.proofs.Cases.{value_of-Unit}
use Rattle.thread_table.specs.Table.{slots_of, changed, with_control}
use Rattle.world_entries.proofs.Answering.{told_one, told_two}
use Rattle.world_entries.proofs.Standing.{put_cell_is}
use Rattle.world_entries.proofs.Putting.{put_whole}
use Rattle.world_entries.proofs.CellEntries.{put_law, elsewhere, with_parts}
use Rattle.world_entries.proofs.PutEntries.{still_exists, readers_still_stand, were_shown, mid_exists, mid_unread, mid_alone, caller_is_at, taker_is_at, caller_still_at, answered_makes, waiting_makes}
use Rattle.world_entries.proofs.world.World.put.Goals as goal

pub copies_for_readers-requires-clause-exists : goal.copies_for_readers-requires-clause-exists
copies_for_readers-requires-clause-exists c = put_cell_is c.args.self.now c.requires.live c.args.t c.args.m c.args.v c.requires.stands

pub show-requires-clause-exists : goal.show-requires-clause-exists
show-requires-clause-exists c =
    still_exists c.args.m c.args.self.now c.copies_for_readers.new.self (put_cell_is c.args.self.now c.requires.live c.args.t c.args.m c.args.v c.requires.stands) c.in_ok-copies.ensures.cells

pub show-requires-clause-stand : goal.show-requires-clause-stand
show-requires-clause-stand c = readers_still_stand c.args.m c.args.self.now c.copies_for_readers.new.self c.requires.live c.in_ok-copies.ensures.cells c.in_ok-copies.ensures.list

pub put-requires-clause-exists : goal.put-requires-clause-exists
put-requires-clause-exists c =
    let copied = c.in_ok-copies.ensures in
    let h = were_shown c.args.self.now (put_cell_is c.args.self.now c.requires.live c.args.t c.args.m c.args.v c.requires.stands) copied.full copied.state copied.cells copied.list (c.show.ensures.shown c.args.v copied.copies.0) c.show.ensures.rest in
    mid_exists h

pub put-requires-clause-alone : goal.put-requires-clause-alone
put-requires-clause-alone c =
    let copied = c.in_ok-copies.ensures in
    let h = were_shown c.args.self.now (put_cell_is c.args.self.now c.requires.live c.args.t c.args.m c.args.v c.requires.stands) copied.full copied.state copied.cells copied.list (c.show.ensures.shown c.args.v copied.copies.0) c.show.ensures.rest in
    mid_alone h c.requires.live c.args.t (operation.PutMVar c.args.m c.args.v) c.requires.stands

pub put-requires-clause-no_reader : goal.put-requires-clause-no_reader
put-requires-clause-no_reader c =
    let copied = c.in_ok-copies.ensures in
    let h = were_shown c.args.self.now (put_cell_is c.args.self.now c.requires.live c.args.t c.args.m c.args.v c.requires.stands) copied.full copied.state copied.cells copied.list (c.show.ensures.shown c.args.v copied.copies.0) c.show.ensures.rest in
    mid_unread h

pub block-requires-clause-there : goal.block-requires-clause-there
block-requires-clause-there c =
    let copied = c.in_ok-copies.ensures in
    let h = were_shown c.args.self.now (put_cell_is c.args.self.now c.requires.live c.args.t c.args.m c.args.v c.requires.stands) copied.full copied.state copied.cells copied.list (c.show.ensures.shown c.args.v copied.copies.0) c.show.ensures.rest in
    caller_is_at h c.requires.live c.args.t (operation.PutMVar c.args.m c.args.v) c.requires.stands

pub answer-requires-clause-there : goal.answer-requires-clause-there
answer-requires-clause-there c =
    let copied = c.in_ok-copies.ensures in
    let h = were_shown c.args.self.now (put_cell_is c.args.self.now c.requires.live c.args.t c.args.m c.args.v c.requires.stands) copied.full copied.state copied.cells copied.list (c.show.ensures.shown c.args.v copied.copies.0) c.show.ensures.rest in
    caller_is_at h c.requires.live c.args.t (operation.PutMVar c.args.m c.args.v) c.requires.stands

pub answer-requires-in-Served-clause-there : goal.answer-requires-in-Served-clause-there
answer-requires-in-Served-clause-there c =
    let copied = c.in_ok-copies.ensures in
    let h = were_shown c.args.self.now (put_cell_is c.args.self.now c.requires.live c.args.t c.args.m c.args.v c.requires.stands) copied.full copied.state copied.cells copied.list (c.show.ensures.shown c.args.v copied.copies.0) c.show.ensures.rest in
    taker_is_at h c.requires.live c.args.t (operation.PutMVar c.args.m c.args.v) c.requires.stands c.in-Served.taker c.in-Served.ensures.to.1

pub answer-requires-in-Served-2-clause-there : goal.answer-requires-in-Served-2-clause-there
answer-requires-in-Served-2-clause-there c =
    let copied = c.in_ok-copies.ensures in
    let h = were_shown c.args.self.now (put_cell_is c.args.self.now c.requires.live c.args.t c.args.m c.args.v c.requires.stands) copied.full copied.state copied.cells copied.list (c.show.ensures.shown c.args.v copied.copies.0) c.show.ensures.rest in
    caller_still_at h c.requires.live c.args.t (operation.PutMVar c.args.m c.args.v) c.requires.stands c.in-Served.taker c.in-Served.ensures.to.1 c.answer-in-Served.new.self.list.items (with_control (control.Ret c.in-Served.value)) c.answer-in-Served.ensures.list

pub returns-in-Blocks-clause-ok : goal.returns-in-Blocks-clause-ok
returns-in-Blocks-clause-ok c =
    let mid = c.show.new.self in
    let copied = c.in_ok-copies.ensures in
    let h = were_shown c.args.self.now (put_cell_is c.args.self.now c.requires.live c.args.t c.args.m c.args.v c.requires.stands) copied.full copied.state copied.cells copied.list (c.show.ensures.shown c.args.v copied.copies.0) c.show.ensures.rest in
    waiting_makes h c.args.t (Put c.args.t c.args.v) (with_parts mid c.block.new.self c.put.new.self) (elsewhere mid c.block.new.self c.put.new.self c.block.ensures.flight) (λ b accepted. put_law c.args.self.now c.args.t c.args.m c.requires.goes b accepted c.args.v c.requires.stands) c.in-Blocks.ensures.to.0 c.in-Blocks.ensures.to.1
    (put_whole c.args.m c.args.self.now.cells mid.cells c.put.new.self [] h.exists h.unread h.cells c.args.t c.args.v c.in-Blocks.ensures.call) c.block.ensures.list

pub returns-in-Done-clause-ok : goal.returns-in-Done-clause-ok
returns-in-Done-clause-ok c =
    let mid = c.show.new.self in
    let copied = c.in_ok-copies.ensures in
    let h = were_shown c.args.self.now (put_cell_is c.args.self.now c.requires.live c.args.t c.args.m c.args.v c.requires.stands) copied.full copied.state copied.cells copied.list (c.show.ensures.shown c.args.v copied.copies.0) c.show.ensures.rest in
    answered_makes h c.args.t (Put c.args.t c.args.v) (with_parts mid c.answer.new.self c.put.new.self) (elsewhere mid c.answer.new.self c.put.new.self c.answer.ensures.flight) (λ b accepted. put_law c.args.self.now c.args.t c.args.m c.requires.goes b accepted c.args.v c.requires.stands) (reply_of c.args.t Gave) []
    (put_whole c.args.m c.args.self.now.cells mid.cells c.put.new.self (reply_of c.args.t Gave ∷ []) h.exists h.unread h.cells c.args.t c.args.v c.in-Done.ensures.call)
    (λ b. ap (slots_of b) c.answer.ensures.list ∙ told_one b c.args.t c.args.m c.args.t raw.Unit Gave mid.threads.list.items value_of-Unit)

pub returns-in-Served-clause-ok : goal.returns-in-Served-clause-ok
returns-in-Served-clause-ok c =
    let mid = c.show.new.self in
    let copied = c.in_ok-copies.ensures in
    let h = were_shown c.args.self.now (put_cell_is c.args.self.now c.requires.live c.args.t c.args.m c.args.v c.requires.stands) copied.full copied.state copied.cells copied.list (c.show.ensures.shown c.args.v copied.copies.0) c.show.ensures.rest in
    let first = c.answer-in-Served.ensures in
    let last = c.answer-in-Served-2.ensures in
    answered_makes h c.args.t (Put c.args.t c.args.v) (with_parts mid c.answer-in-Served-2.new.self c.put.new.self) (elsewhere mid c.answer-in-Served-2.new.self c.put.new.self (last.flight ∙ first.flight)) (λ b accepted. put_law c.args.self.now c.args.t c.args.m c.requires.goes b accepted c.args.v c.requires.stands) (reply_of c.in-Served.taker (Took c.in-Served.value)) (reply_of c.args.t Gave ∷ [])
    (put_whole c.args.m c.args.self.now.cells mid.cells c.put.new.self (reply_of c.in-Served.taker (Took c.in-Served.value) ∷ reply_of c.args.t Gave ∷ []) h.exists h.unread h.cells c.args.t c.args.v c.in-Served.ensures.call)
    (λ b.
    ap (slots_of b) (last.list ∙ ap (changed c.args.t (with_control (control.Ret raw.Unit))) first.list)
    ∙ told_two b c.args.t c.args.m c.in-Served.taker c.args.t c.in-Served.value raw.Unit (Took c.in-Served.value) Gave mid.threads.list.items refl value_of-Unit)
