use Rattle.std.proofs.Common.{sym, ap, ◌∙◌}
use Rattle.local_steps.specs.Machine.{next_of}
use Rattle.term_graph.proofs.Going.{lands_on}
use Rattle.term_graph.proofs.stepping.go_on.Goals as goal

-- src/stepping.rt
pub returns-in_ok-moved-in-To-clause-is : goal.returns-in_ok-moved-in-To-clause-is
returns-in_ok-moved-in-To-clause-is c = λ p fs h.
    let b = c.args.body.now in
    let news = c.step.new.frames.list in
    lands_on c.args.terms.now c.land.new.terms b p fs c.args.begun h c.in-To.next news c.in_ok-moved-in-To.moved
    (sym (ap (λ n. next_of b n news) c.in-To.is) ∙ c.in_ok-step.ensures.rule) (c.in_ok-moved-in-To.ensures.is b)
