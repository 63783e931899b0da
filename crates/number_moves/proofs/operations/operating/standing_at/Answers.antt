use Rattle.std.proofs.Common.{◌≡◌, sym, ◌∙◌, subst}
use Rattle.std.specs.Prelude.{MatchOption}
use Rattle.slot_laws.specs.SlotRules.{performs}
use Rattle.local_steps.specs.Machine.{active_of}
use Rattle.frame_stack.specs.Parts.{op_of}
use Rattle.number_moves.specs.operations.Standing.{IsIdle}
use Rattle.number_moves.proofs.operations_lemmas.Operates.{idle_enters, stands_at}
use Rattle.number_moves.proofs.operations.operating.standing_at.Goals as goal

-- src/operating.rt
pub returns-in-None : goal.returns-in-None
returns-in-None c = λ b.
    let part = active_of b c.part.result.now in
    idle_enters c.args.numbers.now b c.args.state.now c.args.thread c.in-Some.one part c.in-Some.ensures c.if-one.false (c.part.ensures b)
    (subst (λ o. MatchOption o (IsIdle part) (λ p. part ≡ performs (op_of b p))) c.in-None.is (c.in_ok-operation_of.ensures b))

pub returns-in-Some-2 : goal.returns-in-Some-2
returns-in-Some-2 c =
    stands_at c.args.numbers.now c.args.state.now c.args.thread c.in-Some.one c.in-Some-2.operation c.requires c.in-Some.ensures c.if-one.false
    (λ b. sym (c.part.ensures b) ∙ subst (λ o. MatchOption o (IsIdle (active_of b c.part.result.now)) (λ p. active_of b c.part.result.now ≡ performs (op_of b p))) c.in-Some-2.is (c.in_ok-operation_of.ensures b))
