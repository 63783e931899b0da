use Rattle.std.proofs.Common.{List, ◌++◌, sym, subst}
use Rattle.local_steps.specs.declared.active.Frame.{Frame}
use Rattle.local_steps.specs.Machine.{frame_of, frames_of}
use Rattle.term_graph.specs.tables.Numbered.{IsStack}
use Rattle.term_graph.proofs.Growth.{pushed_more}
use Rattle.term_graph.proofs.stepping.+push_all.Goals as goal

-- src/stepping.rt
pub returns-then-passes-clause-is : goal.returns-then-passes-clause-is
returns-then-passes-clause-is t c = λ b fs e.
    subst (λ (z : List Frame). IsStack c.push.new.self b c.in_ok-stack-in-Some.stack (frames_of b z ++ frames_of b fs)) (sym c.in-Some.ensures.0)
    (pushed_more c.push_all.new.terms c.push.new.self b c.in_ok-rest-in-Some.rest.stack c.in_ok-stack-in-Some.stack (frame_of b c.in-Some.frame) (frames_of b c.pop.new.self.list ++ frames_of b fs)
    (c.in_ok-rest-in-Some.ensures.is b fs e) (c.in_ok-stack-in-Some.ensures.is b))

pub returns-else-passes-clause-is : goal.returns-else-passes-clause-is
returns-else-passes-clause-is t c = λ b fs e.
    subst (λ (z : List Frame). IsStack c.push.new.self b c.in_ok-stack-in-Some.stack (frames_of b z ++ frames_of b fs)) (sym c.in-Some.ensures.0)
    (pushed_more c.push_all.new.terms c.push.new.self b c.in_ok-rest-in-Some.rest.stack c.in_ok-stack-in-Some.stack (frame_of b c.in-Some.frame) (frames_of b c.pop.new.self.list ++ frames_of b fs)
    (c.in_ok-rest-in-Some.ensures.is b fs e) (c.in_ok-stack-in-Some.ensures.is b))
