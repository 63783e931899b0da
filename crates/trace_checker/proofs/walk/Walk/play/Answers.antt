use Rattle.std.proofs.Common.{◌≡◌, ◌≤◌, refl, arith}
use Rattle.hs_rules.specs.Histories.{cost_of}
use Rattle.trace_checker.proofs.Following.{costs_one, gone_on, illegal, long}
use Rattle.trace_checker.proofs.walk.Walk.play.Goals as goal

pub returns-then-more-self-clause-err : goal.returns-then-more-self-clause-err
returns-then-more-self-clause-err c = λ b text es h.
    let w = c.args.self.now in
    let within = w.within in
    let cost : c.cost-more.result ≡ cost_of c.args.entry = c.cost-more.ensures in
    long b text es w c.args.entry h (omega (arith, within, cost, c.if-more-self.true))

pub returns-then-not-branch-clause-err : goal.returns-then-not-branch-clause-err
returns-then-not-branch-clause-err c = λ b text es h.
    let w = c.args.self.now in
    let within = w.within in
    let cost : c.cost-more.result ≡ cost_of c.args.entry = c.cost-more.ensures in
    illegal b text es w c.args.entry h (omega (arith, within, cost, c.if-more-self.false)) ((c.in_ok-play.ensures.illegal c.if-not-branch.true).1 es h.played)

pub invariant_of-self-2 : goal.invariant_of-self-2
invariant_of-self-2 c =
    let w = c.args.self.now in
    let few = w.few in
    let within = w.within in
    let cost : c.cost-more.result ≡ cost_of c.args.entry = c.cost-more.ensures in
    let some : 1 ≤ cost_of c.args.entry = costs_one w.player c.play.new.self c.args.entry (c.in_ok-play.ensures.legal c.if-not-branch.false) in
    record { few = omega (arith, few, cost, some); within = omega (arith, within, c.if-more-self.false) }

pub returns-clause-ok : goal.returns-clause-ok
returns-clause-ok c = λ b text es h.
    let cost : c.cost-more.result ≡ cost_of c.args.entry = c.cost-more.ensures in
    gone_on b text es c.args.self.now c.args.entry h _ refl (c.in_ok-play.ensures.legal c.if-not-branch.false es h.played) c.play.ensures.of refl (omega (arith, cost))
