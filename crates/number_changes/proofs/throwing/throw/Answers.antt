use Rattle.std.proofs.Common.{Some, sym, ap, ◌∙◌}
use Rattle.slot_states.specs.SlotStates.{answer, throws_at}
use Rattle.hs_eval.proofs.Cases.{value_of-Unit}
use Rattle.number_states.specs.States.{slots}
use Rattle.number_states.proofs.Changes.{got_read}
use Rattle.number_changes.proofs.Made.{makes}
use Rattle.number_changes.proofs.Written.{on_ok}
use Rattle.number_changes.proofs.Thrown.{at_finished, at_unfinished}
use Rattle.number_changes.proofs.throwing.throw.Goals as goal

-- src/throwing.rt
pub returns-then-index-clause-is : goal.returns-then-index-clause-is
returns-then-index-clause-is c =
    let g = c.args.numbers.now in
    let x = c.args.state.now in
    let t = c.args.thread in
    let u = c.args.target in
    let th = c.index.result.now in
    let there = got_read x.threads.items u th c.requires.there c.index.ensures in
    on_ok _ _ (λ p b. makes (λ b. answer t _) _ b g c.answer.new.numbers x c.answer.new.self c.requires.state c.answer.ensures.grows p
    (at_finished t u c.args.exn c.if-target-thread.false g b x th there c.if-index.true ∙ ap (λ v. Some (answer t v (slots g b x))) (sym value_of-Unit))) c.answer.result c.answer.ensures.is

pub returns-clause-is : goal.returns-clause-is
returns-clause-is c =
    let g = c.args.numbers.now in
    let x = c.args.state.now in
    let t = c.args.thread in
    let u = c.args.target in
    let th = c.index.result.now in
    let there = got_read x.threads.items u th c.requires.there c.index.ensures in
    on_ok _ _ (λ p b. makes (λ b. throws_at t u c.args.exn) _ b g c.throw_at.new.numbers x c.throw_at.new.state c.requires.state c.throw_at.ensures.grows p
    (at_unfinished t u c.args.exn c.if-target-thread.false g b x th there c.if-index.false)) c.throw_at.result c.throw_at.ensures.is
