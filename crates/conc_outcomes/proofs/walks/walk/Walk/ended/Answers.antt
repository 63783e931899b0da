use Rattle.std.proofs.Common.{◌≡◌, length, vec_len, sym, arith}
use Rattle.std.proofs.lemmas.Bool.{eqb-true}
use Rattle.std.proofs.lemmas.List.{nil_from_length}
use Rattle.conc_outcomes.proofs.walks_lemmas.Judged.{ends_by_main, ends_stuck}
use Rattle.conc_outcomes.proofs.walks.walk.Walk.ended.Goals as goal

-- src/judging.rt
pub returns-in-Some-clause-ends : goal.returns-in-Some-clause-ends
returns-in-Some-clause-ends c = ends_by_main c.args.bounds.now c.args.body.now c.args.numbers.now c.args.self.now c.requires c.in-Some.end (c.in-Some.ensures c.args.body.now)

pub returns-then-branch-clause-ends : goal.returns-then-branch-clause-ends
returns-then-branch-clause-ends c =
    let asleep = c.args.self.now.state.sleepers in
    let none : length asleep.items ≡ 0 = omega (arith, asleep.ok.0, eqb-true (vec_len asleep) 0 (sym c.if-is_empty.ensures)) in
    ends_stuck c.args.bounds.now c.args.body.now c.args.numbers.now c.args.self.now c.requires (c.in_default.ensures c.args.body.now) (nil_from_length asleep.items none) (c.in_ok-is_still.ensures.still c.if-branch.true)
