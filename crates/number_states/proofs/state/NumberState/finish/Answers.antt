use Rattle.std.proofs.Common.{true, refl}
use Rattle.slot_states.specs.SlotStates.{finishing}
use Rattle.number_states.specs.declared.state.NumberThread.{NumberThread}
use Rattle.number_states.specs.Stocks.{IsTerm}
use Rattle.number_states.proofs.Growth.{stock_same}
use Rattle.number_states.proofs.Changes.{thread_becomes, all_at, got_read}
use Rattle.number_states.proofs.state.NumberState.finish.Goals as goal

-- src/threads.rt
pub returns-in-Some : goal.returns-in-Some
returns-in-Some c =
    let g = c.args.numbers.now in
    let x = c.args.self.now in
    let th = c.in-Some.one.now in
    let item = (c.in-Some.ensures {u = tt}).item in
    let e = got_read x.threads.items c.args.thread th item.3.0 item.1 in
    thread_becomes g g (stock_same g) c.args.thread th (record { term = th.term; blocked = th.blocked; finished = true }) (λ b. finishing) x _ c.requires e refl (λ b. refl)
    (all_at (λ (u : NumberThread). IsTerm g u.term) x.threads.items c.args.thread th c.requires.threads e)
