use Rattle.std.proofs.Common.{◌++◌, not, ◌&&◌, ap₂, ◌∙◌}
use Rattle.local_steps.specs.Machine.{active_of, frames_of}
use Rattle.term_graph.proofs.Growth.{in_stack}
use Rattle.term_graph.proofs.stepping.land.Goals as goal

-- src/stepping.rt
pub returns-clause-is : goal.returns-clause-is
returns-clause-is c = λ b fs e. record {
  is = in_stack c.push_all.new.terms c.number.new.self b c.in_ok-term.term c.in_ok-pushed.pushed.stack (active_of b c.args.next) (frames_of b c.args.frames.list ++ frames_of b fs) (c.in_ok-pushed.ensures.is b fs e) (c.in_ok-term.ensures.is b);
  adds = c.adds_eagerly-adds.ensures ∙ ap₂ (λ x y. not x && y) (c.is_throw-throws.ensures b) (c.in_ok-pushed.ensures.passes b);
}
