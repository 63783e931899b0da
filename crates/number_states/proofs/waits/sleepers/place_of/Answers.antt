use Rattle.std.proofs.Common.{◌≡◌, length, subst, rules, arith}
use Rattle.number_states.proofs.waits_lemmas.Sorted.{IsBehind, is_first, is_last, stands_there, behind_more}
use Rattle.number_states.proofs.waits.sleepers.place_of.Goals as goal

pub returns-then-not-is_before-clause-place : goal.returns-then-not-is_before-clause-place
returns-then-not-is_before-clause-place c =
    stands_there c.args.sleeper c.args.list.now c.loop-place.place c.loop-place.invariant
    (is_first c.args.sleeper c.args.list.now c.loop-place.place (record { thread = 0; due = 0 }) c.loop-place-test.true (search rules))

pub loop-place-preserved : goal.loop-place-preserved
loop-place-preserved c =
    behind_more c.args.sleeper c.args.list.now c.loop-place.place (record { thread = 0; due = 0 }) c.loop-place-test.true (search rules) c.loop-place.invariant

pub returns-clause-place : goal.returns-clause-place
returns-clause-place c =
    let end : c.loop-place.place ≡ length c.args.list.now = omega arith in
    stands_there c.args.sleeper c.args.list.now (length c.args.list.now) (subst (IsBehind c.args.sleeper c.args.list.now) end c.loop-place.invariant) (is_last c.args.sleeper c.args.list.now)
