use Rattle.std.proofs.Common.{rules, arith, w64, ◌≡◌, ◌+◌, Some, OnOk, [], ◌++◌, length, refl, sym, ap, subst}
use Rattle.std.proofs.lemmas.Int.{ints}
use mir.Val.{SFits, to_z, of_z}
use Rattle.hs_eval.proofs.Cases.{value_of-Unit, value_of-Thread}
use Rattle.slot_states.specs.SlotStates.{answer, prints}
use Rattle.slot_states.specs.entering.Operating.{delayed}
use Rattle.rules_code.specs.declared.code.CodeBody.{CodeBody}
use Rattle.hs_rules.specs.Primitives.{line_feed}
use Rattle.number_changes.specs.Moves.{Makes}
use Rattle.number_changes.proofs.Written.{on_ok}
use Rattle.number_states.specs.States.{slots, Becomes}
use Rattle.number_moves.proofs.operations_lemmas.Operates.{performed_so, quietly}
use Rattle.number_moves.proofs.operations.operating.perform.Goals as goal

-- src/operating.rt
pub returns-in-PutStr-clause-is : goal.returns-in-PutStr-clause-is
returns-in-PutStr-clause-is c = performed_so _ _ _ _ _ _ _ _ c.in-PutStr.is _
    (on_ok _ _ (subst (λ s. (b : CodeBody) → Makes (λ x. Some (prints c.args.thread (length s) x)) b c.args.numbers.now c.args.next.now s [] c.print.new.numbers c.print.new.state) c.as_str.ensures) c.print.result c.print.ensures.is)

pub returns-in-PutStrLn-clause-is : goal.returns-in-PutStrLn-clause-is
returns-in-PutStrLn-clause-is c = performed_so _ _ _ _ _ _ _ _ c.in-PutStrLn.is _
    (on_ok _ _ (subst (λ s. (b : CodeBody) → Makes (λ x. Some (prints c.args.thread (length s + 1) x)) b c.args.numbers.now c.args.next.now (s ++ line_feed) [] c.print_line.new.numbers c.print_line.new.state) c.as_str-in-PutStrLn.ensures) c.print_line.result c.print_line.ensures.is)

pub returns-in-HPutStrLn-clause-is : goal.returns-in-HPutStrLn-clause-is
returns-in-HPutStrLn-clause-is c = performed_so _ _ _ _ _ _ _ _ c.in-HPutStrLn.is _
    (on_ok _ _ (subst (λ s. (b : CodeBody) → Makes (λ x. Some (prints c.args.thread (length s + 1) x)) b c.args.numbers.now c.args.next.now [] (s ++ line_feed) c.print_error.new.numbers c.print_error.new.state) c.as_str-in-HPutStrLn.ensures) c.print_error.result c.print_error.ensures.is)

pub returns-in-NewMVar-clause-is : goal.returns-in-NewMVar-clause-is
returns-in-NewMVar-clause-is c = quietly _ _ _ _ _ _ _ _ c.in-NewMVar.is _ _ c.requires.state c.make.ensures.grows c.make.ensures.is (λ b. refl) (λ b. refl) (λ b. refl)

pub returns-in-NewEmptyMVar-clause-is : goal.returns-in-NewEmptyMVar-clause-is
returns-in-NewEmptyMVar-clause-is c = quietly _ _ _ _ _ _ _ _ c.in-NewEmptyMVar.is _ _ c.requires.state c.make-in-NewEmptyMVar.ensures.grows c.make-in-NewEmptyMVar.ensures.is (λ b. refl) (λ b. refl) (λ b. refl)

pub returns-in-TakeMVar-clause-is : goal.returns-in-TakeMVar-clause-is
returns-in-TakeMVar-clause-is c = quietly _ _ _ _ _ _ _ _ c.in-TakeMVar.is _ _ c.requires.state c.call.ensures.grows c.call.ensures.is (λ b. refl) (λ b. refl) (λ b. refl)

pub returns-in-PutMVar-clause-is : goal.returns-in-PutMVar-clause-is
returns-in-PutMVar-clause-is c = quietly _ _ _ _ _ _ _ _ c.in-PutMVar.is _ _ c.requires.state c.put.ensures.grows c.put.ensures.is (λ b. refl) (λ b. refl) (λ b. refl)

pub returns-in-ReadMVar-clause-is : goal.returns-in-ReadMVar-clause-is
returns-in-ReadMVar-clause-is c = quietly _ _ _ _ _ _ _ _ c.in-ReadMVar.is _ _ c.requires.state c.call-in-ReadMVar.ensures.grows c.call-in-ReadMVar.ensures.is (λ b. refl) (λ b. refl) (λ b. refl)

pub returns-in-TryTakeMVar-clause-is : goal.returns-in-TryTakeMVar-clause-is
returns-in-TryTakeMVar-clause-is c = quietly _ _ _ _ _ _ _ _ c.in-TryTakeMVar.is _ _ c.requires.state c.call-in-TryTakeMVar.ensures.grows c.call-in-TryTakeMVar.ensures.is (λ b. refl) (λ b. refl) (λ b. refl)

pub returns-in-TryPutMVar-clause-is : goal.returns-in-TryPutMVar-clause-is
returns-in-TryPutMVar-clause-is c = quietly _ _ _ _ _ _ _ _ c.in-TryPutMVar.is _ _ c.requires.state c.try_put.ensures.grows c.try_put.ensures.is (λ b. refl) (λ b. refl) (λ b. refl)

pub returns-in-MyThreadId-clause-is : goal.returns-in-MyThreadId-clause-is
returns-in-MyThreadId-clause-is c =
    quietly _ _ _ _ _ _ _ _ c.in-MyThreadId.is _ _ c.requires.state c.answer.ensures.grows c.answer.ensures.is
    (λ b. ap (λ v. Some (answer c.args.thread v (slots c.args.numbers.now b c.args.next.now))) (sym (value_of-Thread c.args.thread))) (λ b. refl) (λ b. refl)

pub returns-in-GetMaskingState-clause-is : goal.returns-in-GetMaskingState-clause-is
returns-in-GetMaskingState-clause-is c = quietly _ _ _ _ _ _ _ _ c.in-GetMaskingState.is _ _ c.requires.state c.tell_masking.ensures.grows c.tell_masking.ensures.is (λ b. refl) (λ b. refl) (λ b. refl)

pub returns-in-ClockMicros-clause-is : goal.returns-in-ClockMicros-clause-is
returns-in-ClockMicros-clause-is c = quietly _ _ _ _ _ _ _ _ c.in-ClockMicros.is _ _ c.requires.state c.tell_clock.ensures.grows c.tell_clock.ensures.is (λ b. refl) (λ b. refl) (λ b. refl)

pub returns-in-ThreadDelay-clause-is : goal.returns-in-ThreadDelay-clause-is
returns-in-ThreadDelay-clause-is c =
    let n = c.in-ThreadDelay.micros in
    let fits : SFits w64 n = search rules in
    let same : to_z w64 (of_z w64 n) ≡ n = omega (arith, ints) in
    quietly _ _ _ _ _ _ _ _ c.in-ThreadDelay.is _ _ c.requires.state c.delay.ensures.grows
    (subst (λ m. OnOk c.delay.result (Becomes (λ b. delayed c.args.thread m) c.args.numbers.now c.args.next.now c.delay.new.numbers c.delay.new.state)) same c.delay.ensures.is) (λ b. refl) (λ b. refl) (λ b. refl)

pub returns-in-ThrowTo-clause-is : goal.returns-in-ThrowTo-clause-is
returns-in-ThrowTo-clause-is c = performed_so _ _ _ _ _ _ _ _ c.in-ThrowTo.is _ c.throw.ensures.is

pub returns-in-NewTimeout-clause-is : goal.returns-in-NewTimeout-clause-is
returns-in-NewTimeout-clause-is c = quietly _ _ _ _ _ _ _ _ c.in-NewTimeout.is _ _ c.requires.state c.new_timeout.ensures.grows c.new_timeout.ensures.is (λ b. refl) (λ b. refl) (λ b. refl)

pub returns-in-Acquired-clause-is : goal.returns-in-Acquired-clause-is
returns-in-Acquired-clause-is c = quietly _ _ _ _ _ _ _ _ c.in-Acquired.is _ _ c.requires.state c.acquire.ensures.grows c.acquire.ensures.is (λ b. refl) (λ b. refl) (λ b. refl)

pub returns-in-Release-clause-is : goal.returns-in-Release-clause-is
returns-in-Release-clause-is c =
    quietly _ _ _ _ _ _ _ _ c.in-Release.is _ _ c.requires.state c.answer-in-Release.ensures.grows c.answer-in-Release.ensures.is
    (λ b. ap (λ v. Some (answer c.args.thread v (slots c.args.numbers.now b c.args.next.now))) (sym value_of-Unit)) (λ b. refl) (λ b. refl)

pub returns-in-Fork-clause-is : goal.returns-in-Fork-clause-is
returns-in-Fork-clause-is c = quietly c.args.numbers.now _ c.args.next.now _ c.args.thread c.args.term _ _ c.in-Fork.is _ _ c.requires.state c.fork.ensures.grows c.fork.ensures.is (λ b. refl) (λ b. refl) (λ b. refl)

pub returns-in-ForkUnmask-clause-is : goal.returns-in-ForkUnmask-clause-is
returns-in-ForkUnmask-clause-is c = quietly _ _ _ _ c.args.thread c.args.term _ _ c.in-ForkUnmask.is _ _ c.requires.state c.fork_unmask.ensures.grows c.fork_unmask.ensures.is (λ b. refl) (λ b. refl) (λ b. refl)
