use Rattle.std.proofs.Common.{length, ◌≡◌, ap, ◌∙◌, arith}
use Rattle.std.proofs.lemmas.Grind.{common_steps}
use Rattle.rules_meaning.specs.Values as val
use Rattle.hs_eval.proofs.Cases.{value_of-Thread}
use Rattle.number_states.specs.Stocks.{term_at}
use Rattle.number_states.specs.States.{contents}
use Rattle.number_states.proofs.Growth.{all_in_on, is_term_on, term_at_on}
use Rattle.number_changes.proofs.Written.{on_ok}
use Rattle.number_changes.proofs.Forked.{fork_becomes}
use Rattle.number_changes.proofs.telling.begin.Goals as goal

-- src/telling.rt
pub answer-requires : goal.answer-requires
answer-requires c = all_in_on c.args.numbers.now c.forked.new.self c.in_ok-begun.ensures.grows (contents c.args.state.now) c.requires.state

pub spawn-requires-clause-term : goal.spawn-requires-clause-term
spawn-requires-clause-term c = is_term_on c.forked.new.self c.answer.new.numbers c.in_ok-answer.ensures.grows c.in_ok-begun.begun c.in_ok-begun.ensures.there

pub returns-clause-is : goal.returns-clause-is
returns-clause-is c =
    let g = c.args.numbers.now in
    let h = c.forked.new.self in
    let i = c.answer.new.numbers in
    let x = c.args.state.now in
    let n = c.in_ok-begun.begun in
    let child : c.in-Ok.child ≡ length x.threads.items = grind (arith, common_steps) in
    on_ok _ _ (fork_becomes g h i x c.answer.new.self c.spawn.new.self c.args.thread _ (λ b. term_at i b n) _ c.requires.state c.in_ok-begun.ensures.grows (value_of-Thread c.in-Ok.child ∙ ap (λ m. val.Thread m) child)
    (λ b. term_at_on h i c.in_ok-answer.ensures.grows b n c.in_ok-begun.ensures.there ∙ c.in_ok-begun.ensures.is b) c.in_ok-answer.ensures.is) c.spawn.result c.spawn.ensures
