use Rattle.std.proofs.Common.{◌≡◌, [], ap, rules}
use Rattle.slot_states.specs.SlotStates.{SlotState, told_all}
use Rattle.number_states.specs.States.{slots}
use Rattle.number_changes.proofs.Made.{becomes_as}
use Rattle.number_changes.proofs.Written.{on_ok}
use Rattle.number_changes.proofs.Calls.{meant, replies_make, told_some}
use Rattle.number_changes.proofs.calling.tell_all.Goals as goal

-- src/calling.rt
pub returns-clause-is : goal.returns-clause-is
returns-clause-is c =
    let g = c.args.numbers.now in
    let x = c.args.state.now in
    let rs = c.args.replies.now in
    let t = c.args.thread in
    let some : rs ≡ [] → ⊥ = search rules in
    on_ok _ _ (λ p m. becomes_as (replies_make m (meant g rs)) (λ b s. record s { threads = told_all t m (meant g rs) s.threads }) g c.answer_all.new.numbers x c.answer_all.new.state
    (λ b. ap (λ ths. let s : SlotState = slots g b x in record s { threads = ths }) (told_some t m g rs (slots g b x).threads some)) (p m)) c.answer_all.result c.answer_all.ensures.is
