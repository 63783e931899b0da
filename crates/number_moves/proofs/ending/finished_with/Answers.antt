use Rattle.std.proofs.Common.{◌≡◌, ◌+◌, length, refl}
use Rattle.number_moves.proofs.Ended.{line_makes}
use Rattle.number_moves.proofs.ending.finished_with.Goals as goal

-- src/ending.rt
pub returns-clause-is : goal.returns-clause-is
returns-clause-is c = λ b.
    let fin = c.in_ok-next.next in
    let known = c.in_ok-next.ensures {u = tt} in
    let said = c.in_ok-next-2.ensures {u = tt} in
    let line = c.args.line.now in
    let count : c.in-Some.printed ≡ fin.printed + length line = (c.in-Some.ensures {u = tt}).1 in
    line_makes b c.args.numbers.now c.finished.new.numbers c.text_and.new.self c.args.state.now fin _ c.args.t line c.in-Some.printed c.in_ok-next-2.field-0 c.requires known.grows said.grows known.is refl count said.is
