use Rattle.std.proofs.Common.{[], ◌∷◌, refl, ap, ◌∙◌}
use Rattle.frame_stack.specs.declared.control.Operation.TheVariants as operation
use Rattle.rules_waiting.specs.OneCell.{Read, Saw, reply_of}
use Rattle.mvar_cell.specs.Calls.{IsCall}
use Rattle.thread_table.specs.Table.{slots_of}
use Rattle.world_entries.proofs.Answering.{told_one}
use Rattle.world_entries.proofs.Standing.{read_cell_is, free_nowhere}
use Rattle.world_entries.proofs.CellEntries.{read_law, call_makes, told_none}
use Rattle.world_entries.proofs.world.World.read.Goals as goal

pub read-requires-clause-exists : goal.read-requires-clause-exists
read-requires-clause-exists c = read_cell_is c.args.self.now c.requires.live c.args.t c.args.m c.requires.stands

pub read-requires-clause-alone : goal.read-requires-clause-alone
read-requires-clause-alone c = free_nowhere c.args.self.now c.requires.live c.args.t (operation.ReadMVar c.args.m) c.requires.stands

pub returns-in-Blocks-clause-ok : goal.returns-in-Blocks-clause-ok
returns-in-Blocks-clause-ok c =
    let w = c.args.self.now in
    let call : IsCall (Read c.args.t) c.args.m w.cells c.read.new.self [] = rw c.in-Blocks.is at c.in_ok-read.ensures.call in
    call_makes w c.block.new.self c.read.new.self c.args.t c.args.m (Read c.args.t) [] call
    (λ b. told_none b c.args.t c.args.m w.threads.list.items c.block.new.self.list.items c.block.ensures.list)
    c.block.ensures.flight
    (λ b accepted. read_law w c.args.t c.args.m c.requires.goes b accepted c.requires.stands)

pub returns-in-Done-clause-ok : goal.returns-in-Done-clause-ok
returns-in-Done-clause-ok c =
    let w = c.args.self.now in
    let call : IsCall (Read c.args.t) c.args.m w.cells c.read.new.self (reply_of c.args.t (Saw c.in-Done.value) ∷ []) = rw c.in-Done.is at c.in_ok-read.ensures.call in
    call_makes w c.answer.new.self c.read.new.self c.args.t c.args.m (Read c.args.t) (reply_of c.args.t (Saw c.in-Done.value) ∷ []) call
    (λ b. ap (slots_of b) c.answer.ensures.list ∙ told_one b c.args.t c.args.m c.args.t c.in-Done.value (Saw c.in-Done.value) w.threads.list.items refl)
    c.answer.ensures.flight
    (λ b accepted. read_law w c.args.t c.args.m c.requires.goes b accepted c.requires.stands)
