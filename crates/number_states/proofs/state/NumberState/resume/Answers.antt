use Rattle.std.proofs.Common.{false, refl, ap}
use Rattle.slot_laws.specs.SlotRules.{SlotTerm}
use Rattle.slot_states.specs.SlotStates.{SlotThread, resumed_by}
use Rattle.local_steps.specs.Machine.{active_of}
use Rattle.number_states.specs.declared.state.NumberThread.{NumberThread}
use Rattle.number_states.proofs.Changes.{thread_becomes, got_read}
use Rattle.number_states.proofs.state.NumberState.resume.Goals as goal

-- src/threads.rt
pub returns-clause-is : goal.returns-clause-is
returns-clause-is c =
    let g = c.args.numbers.now in
    let h = c.resumed.new.self in
    let x = c.args.self.now in
    let th = c.in-Some.one.now in
    let item = (c.in-Some.ensures {u = tt}).item in
    let e = got_read x.threads.items c.args.thread th item.3.0 item.1 in
    let new : NumberThread = record { term = c.in_ok-term.term; blocked = false; finished = th.finished } in
    thread_becomes g h c.resumed.ensures.grows c.args.thread th new (λ b. resumed_by (active_of b c.args.part)) x _ c.requires e refl
    (λ b. ap (λ (st : SlotTerm). let t : SlotThread = record { term = st; blocked = false; finished = th.finished } in t) (c.in_ok-term.ensures.is b))
    c.in_ok-term.ensures.there
