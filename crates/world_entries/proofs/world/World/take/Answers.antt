use Rattle.std.proofs.Common.{[], ◌∷◌, refl, ap, ◌∙◌}
use Rattle.hs_base.specs.declared.value.Value.TheVariants as raw
use Rattle.frame_stack.specs.declared.control.Control.TheVariants as control
use Rattle.frame_stack.specs.declared.control.Operation.TheVariants as operation
use Rattle.rules_waiting.specs.OneCell.{Take, Took, Gave, reply_of}
use Rattle.hs_eval.proofs.Cases.{value_of-Unit}
use Rattle.thread_table.specs.Table.{slots_of, changed, with_control}
use Rattle.world_entries.proofs.Answering.{told_one, told_two}
use Rattle.world_entries.proofs.Standing.{take_cell_is, free_nowhere}
use Rattle.world_entries.proofs.CellEntries.{take_law, call_makes, told_none, putter_is_at}
use Rattle.world_entries.proofs.world.World.take.Goals as goal

pub take-requires-clause-exists : goal.take-requires-clause-exists
take-requires-clause-exists c = take_cell_is c.args.self.now c.requires.live c.args.t c.args.m c.requires.stands

pub take-requires-clause-alone : goal.take-requires-clause-alone
take-requires-clause-alone c = free_nowhere c.args.self.now c.requires.live c.args.t (operation.TakeMVar c.args.m) c.requires.stands

pub answer-requires-in-Served-2-clause-there : goal.answer-requires-in-Served-2-clause-there
answer-requires-in-Served-2-clause-there c =
    let from = c.in-Served.ensures.from in
    putter_is_at c.args.self.now c.requires.live c.args.t c.args.m c.in-Served.putter (operation.TakeMVar c.args.m) c.requires.stands c.in-Served.value from.0 from.1 c.answer-in-Served.new.self.list.items (with_control (control.Ret c.in-Served.value)) c.answer-in-Served.ensures.list

pub returns-in-Blocks : goal.returns-in-Blocks
returns-in-Blocks c =
    let w = c.args.self.now in
    call_makes w c.block.new.self c.take.new.self c.args.t c.args.m (Take c.args.t) [] c.in-Blocks.ensures.call
    (λ b. told_none b c.args.t c.args.m w.threads.list.items c.block.new.self.list.items c.block.ensures.list)
    c.block.ensures.flight
    (λ b accepted. take_law w c.args.t c.args.m c.requires.goes b accepted c.requires.stands)

pub returns-in-Done : goal.returns-in-Done
returns-in-Done c =
    let w = c.args.self.now in
    call_makes w c.answer.new.self c.take.new.self c.args.t c.args.m (Take c.args.t) (reply_of c.args.t (Took c.in-Done.value) ∷ []) c.in-Done.ensures.call
    (λ b. ap (slots_of b) c.answer.ensures.list ∙ told_one b c.args.t c.args.m c.args.t c.in-Done.value (Took c.in-Done.value) w.threads.list.items refl)
    c.answer.ensures.flight
    (λ b accepted. take_law w c.args.t c.args.m c.requires.goes b accepted c.requires.stands)

pub returns-in-Served : goal.returns-in-Served
returns-in-Served c =
    let w = c.args.self.now in
    let first = c.answer-in-Served.ensures in
    let last = c.answer-in-Served-2.ensures in
    call_makes w c.answer-in-Served-2.new.self c.take.new.self c.args.t c.args.m (Take c.args.t) (reply_of c.args.t (Took c.in-Served.value) ∷ reply_of c.in-Served.putter Gave ∷ []) c.in-Served.ensures.call
    (λ b.
    ap (slots_of b) (last.list ∙ ap (changed c.in-Served.putter (with_control (control.Ret raw.Unit))) first.list)
    ∙ told_two b c.args.t c.args.m c.args.t c.in-Served.putter c.in-Served.value raw.Unit (Took c.in-Served.value) Gave w.threads.list.items refl value_of-Unit)
    (last.flight ∙ first.flight)
    (λ b accepted. take_law w c.args.t c.args.m c.requires.goes b accepted c.requires.stands)
