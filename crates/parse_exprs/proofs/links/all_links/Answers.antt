use Rattle.std.proofs.Common.{arith, sym}
use Rattle.std.proofs.lemmas.Result.{err_from_is_err_and}
use Rattle.parse_leaves.proofs.Steps.{turn_more, turn_stop, turn_fault}
use Rattle.parse_exprs.proofs.links.all_links.Goals as goal

pub items-preserved : goal.items-preserved
items-preserved g c = record {
  so_far = turn_more c.args.depth g.L.Links.rule g.met.L.Links.repeats _ _ _ _ _ _ c.items.invariant.so_far (sym c.items-test.ensures) c.in_ok-link.ensures.reads c.in_ok-add.ensures.ok;
  shorter = omega (arith, c.in_ok-link.ensures.shorter, c.items.invariant.shorter);
}

pub returns-clause-reads : goal.returns-clause-reads
returns-clause-reads g c = turn_stop c.args.depth g.L.Links.rule g.met.L.Links.repeats _ _ _ c.items.invariant.so_far (sym c.items-test.ensures)

pub returns-in_err-link-clause-reads : goal.returns-in_err-link-clause-reads
returns-in_err-link-clause-reads g c =
    let p = err_from_is_err_and c.from_residual.result c.from_residual.ensures.1 in
    rw (p.1, p.2) (turn_fault c.args.depth g.L.Links.rule g.met.L.Links.repeats _ _ _ _ _ _ c.items.invariant.so_far (sym c.items-test.ensures) c.in_err-link.ensures.reads)
