use Rattle.std.proofs.Common.{None, ◌≡◌, subst, rules}
use Rattle.std.specs.Prelude.{MatchOption}
use Rattle.hs_rules.specs.declared.entry.Entry.TheVariants as entry
use Rattle.rules_code.specs.declared.code.CodeBody.{CodeBody}
use Rattle.slot_states.specs.entering.Entering.{entered}
use Rattle.local_steps.specs.Machine.{funs_of}
use Rattle.number_states.specs.States.{slots}
use Rattle.number_moves.specs.operations.Standing.{Stands}
use Rattle.number_moves.proofs.operations_lemmas.Operates.{performs_enters, targets_nobody}
use Rattle.number_moves.proofs.operations.operating.operate.Goals as goal

-- src/operating.rt
pub returns-then-not-has_target-clause-is : goal.returns-then-not-has_target-clause-is
returns-then-not-has_target-clause-is c = λ b.
    let g = c.args.numbers.now in
    let x = c.args.state.now in
    let t = c.args.thread in
    let stands = subst (λ o. MatchOption o ((b : CodeBody) → entered (funs_of b) (slots g b x) (entry.Op t) ≡ None) (Stands g x t)) c.in-Some.is c.in_ok-found.ensures in
    targets_nobody g x t c.in-Some.found stands b c.len.result (search rules) (search rules)

pub returns-clause-is : goal.returns-clause-is
returns-clause-is c = λ b.
    let g = c.args.numbers.now in
    let x = c.args.state.now in
    let t = c.args.thread in
    let stands = subst (λ o. MatchOption o ((b : CodeBody) → entered (funs_of b) (slots g b x) (entry.Op t) ≡ None) (Stands g x t)) c.in-Some.is c.in_ok-found.ensures in
    performs_enters g x t c.in-Some.found stands b c.perform.new.numbers c.in_ok-next.next c.perform.new.next c.in_ok-next.ensures (c.in_ok-perform.ensures.is b)
