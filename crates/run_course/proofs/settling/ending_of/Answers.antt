use Rattle.std.proofs.Common.{ap, ◌∙◌, sym, subst}
use Rattle.run_course.specs.declared.history.acts.Next.TheVariants as next
use Rattle.run_course.proofs.history_lemmas.HowItEnds.{done_ends, uncaught_ends}
use Rattle.run_course.specs.Settled.{GoesBy}
use Rattle.run_course.proofs.Ended.{over_ends, spent_ends, stuck_so}
use Rattle.run_course.proofs.settling.ending_of.Goals as goal

pub returns-in-Over-true : goal.returns-in-Over-true
returns-in-Over-true c = let r = c.args.run.now in done_ends r (over_ends r c.args.next _ (c.in-Over-true.is ∙ ap next.Over c.in-Over-true.field-0-test) c.requires)

pub returns-in-Over-false : goal.returns-in-Over-false
returns-in-Over-false c = let r = c.args.run.now in uncaught_ends r (over_ends r c.args.next _ (c.in-Over-false.is ∙ ap next.Over c.in-Over-false.field-0-test) c.requires)

pub returns-in-Stuck : goal.returns-in-Stuck
returns-in-Stuck c = stuck_so c.args.run.now c.args.next c.in-Stuck.is c.requires

pub returns-in-Act : goal.returns-in-Act
returns-in-Act c = spent_ends c.args.run.now c.args.next c.requires (subst GoesBy (sym c.in-Act.is) tt) c.spent.result c.spent.ensures

pub returns-in-Goes : goal.returns-in-Goes
returns-in-Goes c = spent_ends c.args.run.now c.args.next c.requires (subst GoesBy (sym c.in-Goes.is) tt) c.spent-in-Goes.result c.spent-in-Goes.ensures

pub returns-in-Sleeps : goal.returns-in-Sleeps
returns-in-Sleeps c = spent_ends c.args.run.now c.args.next c.requires (subst GoesBy (sym c.in-Sleeps.is) tt) c.spent-in-Sleeps.result c.spent-in-Sleeps.ensures
