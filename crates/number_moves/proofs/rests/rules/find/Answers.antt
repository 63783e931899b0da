use Rattle.std.proofs.Common.{sym, ◌∙◌}
use Rattle.number_moves.proofs.rests_lemmas.Ruling.{found_eager}
use Rattle.number_moves.proofs.rests.rules.find.Goals as goal

-- src/rules.rt
pub returns-then-step-clause-is : goal.returns-then-step-clause-is
returns-then-step-clause-is c =
    let is = rw c.in-Some.is at c.in_ok-step.ensures.is in
    let there = rw c.in-Some.is at c.in_ok-step.ensures.there in
    found_eager c.args.body.now c.args.numbers.now c.step.new.self c.args.term c.in-Some.step.term c.step.ensures.grows c.requires there is.0 (sym is.1 ∙ c.if-step.true)
