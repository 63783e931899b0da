use Rattle.number_moves.proofs.Entered.{entered_so}
use Rattle.number_moves.proofs.moving.enter.Goals as goal

-- src/moving.rt
pub returns-in-Op-clause-is : goal.returns-in-Op-clause-is
returns-in-Op-clause-is c = entered_so c.args.numbers.now c.operate.new.numbers c.args.state.now c.args.body.now _ _ c.in-Op.is c.operate.result c.operate.ensures.is

pub returns-in-Receive-clause-is : goal.returns-in-Receive-clause-is
returns-in-Receive-clause-is c = entered_so c.args.numbers.now c.receive.new.numbers c.args.state.now c.args.body.now _ _ c.in-Receive.is c.receive.result c.receive.ensures.is

pub returns-in-Wake-clause-is : goal.returns-in-Wake-clause-is
returns-in-Wake-clause-is c = entered_so c.args.numbers.now c.wake.new.numbers c.args.state.now c.args.body.now _ _ c.in-Wake.is c.wake.result c.wake.ensures.is

pub returns-in-Finish-clause-is : goal.returns-in-Finish-clause-is
returns-in-Finish-clause-is c = entered_so c.args.numbers.now c.finish.new.numbers c.args.state.now c.args.body.now _ _ c.in-Finish.is c.finish.result c.finish.ensures.is

pub returns-in-Tick-clause-is : goal.returns-in-Tick-clause-is
returns-in-Tick-clause-is c = entered_so c.args.numbers.now c.args.numbers.now c.args.state.now c.args.body.now _ _ c.in-Tick.is c.tick.result c.tick.ensures

pub returns-in-Stranded-clause-is : goal.returns-in-Stranded-clause-is
returns-in-Stranded-clause-is c = entered_so c.args.numbers.now c.strand.new.numbers c.args.state.now c.args.body.now _ _ c.in-Stranded.is c.strand.result c.strand.ensures.is
