use Rattle.rules_waiting.specs.OneCell.{Try_put}
use Rattle.number_states.specs.States.{contents}
use Rattle.number_states.proofs.Growth.{all_in_on}
use Rattle.number_changes.proofs.Written.{on_ok}
use Rattle.number_changes.proofs.Calls.{value_there, with_value}
use Rattle.number_changes.proofs.calling.try_put.Goals as goal

-- src/calling.rt
pub call-requires-clause-state : goal.call-requires-clause-state
call-requires-clause-state c = all_in_on c.args.numbers.now c.value.new.self c.in_ok-number.ensures.grows (contents c.args.state.now) c.requires

pub call-requires-clause-value : goal.call-requires-clause-value
call-requires-clause-value c = value_there c.value.new.self c.in_ok-number.number _ c.in_ok-number.ensures.is

pub returns-clause-is : goal.returns-clause-is
returns-clause-is c =
    on_ok _ _ (with_value c.args.numbers.now c.value.new.self c.call.new.numbers c.args.state.now c.call.new.state c.args.thread c.args.cell c.in_ok-number.number _ (Try_put c.args.thread)
    c.requires c.in_ok-number.ensures.grows c.in_ok-number.ensures.is) c.call.result c.call.ensures.is
