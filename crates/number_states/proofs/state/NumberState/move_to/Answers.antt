use Rattle.std.proofs.Common.{refl}
use Rattle.slot_states.specs.SlotStates.{moving}
use Rattle.number_states.specs.Stocks.{term_at}
use Rattle.number_states.proofs.Growth.{stock_same}
use Rattle.number_states.proofs.Changes.{thread_becomes, got_read}
use Rattle.number_states.proofs.state.NumberState.move_to.Goals as goal

-- src/threads.rt
pub returns-in-Some : goal.returns-in-Some
returns-in-Some c =
    let g = c.args.numbers.now in
    let x = c.args.self.now in
    let th = c.in-Some.one.now in
    let item = (c.in-Some.ensures {u = tt}).item in
    let e = got_read x.threads.items c.args.thread th item.3.0 item.1 in
    thread_becomes g g (stock_same g) c.args.thread th (record { term = c.args.term; blocked = th.blocked; finished = th.finished }) (λ b. moving (term_at g b c.args.term)) x _ c.requires.state e refl (λ b. refl)
    c.requires.term
