use Rattle.std.proofs.Common.{Some, [], ◌∙◌}
use Rattle.slot_states.specs.SlotStates.{prints}
use Rattle.number_changes.specs.Moves.{Makes}
use Rattle.number_changes.proofs.Written.{on_ok, line_of}
use Rattle.number_changes.proofs.printing.print_line.Goals as goal

-- src/printing.rt
pub returns-clause-is : goal.returns-clause-is
returns-clause-is c =
    on_ok _ _ (λ made b. line_of (λ n line. Makes (λ s. Some (prints c.args.thread n s)) b c.args.numbers.now c.args.state.now line [] c.print.new.numbers c.print.new.state) c.as_str.result.now c.args.text.now
    (c.as_str.ensures.value ∙ c.in_ok-line.ensures.ok) (made b)) c.print.result c.print.ensures.is
