use Rattle.std.proofs.Common.{◌+◌, ◌-◌, ◌/◌, ◌<◌, ℕ, length, arith}
use Rattle.conc_outcomes.proofs.order_lemmas.Placing.{there, less_more, greater_more, equal_has}
use Rattle.conc_outcomes.proofs.order.endings.find.Goals as goal

pub loop-low-preserved-in-Less : goal.loop-low-preserved-in-Less
loop-low-preserved-in-Less c =
    let middle : ℕ = c.loop-low.low + (c.loop-low.high - c.loop-low.low) / 2 in
    let less : middle < length c.args.list.now = omega arith in
    record {
      ordered = omega arith;
      within = omega arith;
      before = less_more c.args.list.now c.requires middle c.index-list-middle.result c.args.ended.now c.compare.result (there c.args.list.now middle c.index-list-middle.result less c.index-list-middle.is) c.compare.ensures c.in-Less.is;
      behind = c.loop-low.invariant.behind;
    }

pub loop-low-preserved : goal.loop-low-preserved
loop-low-preserved c =
    let middle : ℕ = c.loop-low.low + (c.loop-low.high - c.loop-low.low) / 2 in
    let less : middle < length c.args.list.now = omega arith in
    record {
      ordered = omega arith;
      within = omega arith;
      before = c.loop-low.invariant.before;
      behind = greater_more c.args.list.now c.requires middle c.index-list-middle.result c.args.ended.now c.compare.result (there c.args.list.now middle c.index-list-middle.result less c.index-list-middle.is) c.compare.ensures c.in-Greater.is;
    }

pub returns-in-Equal : goal.returns-in-Equal
returns-in-Equal c =
    let middle : ℕ = c.loop-low.low + (c.loop-low.high - c.loop-low.low) / 2 in
    let less : middle < length c.args.list.now = omega arith in
    equal_has c.args.list.now middle c.index-list-middle.result c.args.ended.now c.compare.result (there c.args.list.now middle c.index-list-middle.result less c.index-list-middle.is) c.compare.ensures c.in-Equal.is
