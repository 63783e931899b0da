use Rattle.std.proofs.Common.{◌≡◌, ◌≤◌, ◌+◌, ◌-◌}
use Rattle.local_steps.specs.Machine.{funs_of}
use Rattle.number_states.specs.Stocks.{HasGrown}
use Rattle.number_states.specs.States.{AreIn, slots}
use Rattle.number_moves.specs.rests.Resting.{Rests}
use Rattle.number_moves.specs.rests.Rules.{AreRules}
use Rattle.number_moves.proofs.rests.resting.rest.Given as goal

abbrev pub decreases-moves : goal.decreases-moves
decreases-moves l = (1024 - l.count) + (l.threads - l.thread)

abbrev pub invariant-moves : goal.invariant-moves
invariant-moves l = record {
  rests : Rests (funs_of l.body) l.most_frames l.count l.initial.locals.items l.locals.items (slots l.initial.numbers l.body l.initial.state) (slots l.numbers l.body l.state);
  few : l.count ≤ 1024;
  output : l.state.output ≡ l.initial.state.output;
  errors : l.state.errors ≡ l.initial.state.errors;
  there : AreIn l.numbers l.state;
  grows : HasGrown l.initial.numbers l.numbers;
  rules : AreRules l.body l.numbers l.rules;
}
