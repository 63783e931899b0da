use Rattle.std.proofs.Common.{arith, sym}
use Rattle.std.proofs.lemmas.Result.{err_from_is_err_and}
use Rattle.hs_grammar.specs.Parser.{firsts, may_be_empty, read_then}
use Rattle.rules_grammar.specs.Grammar as g
use Rattle.rules_grammar.specs.Grammar.{next_item}
use Rattle.parse_leaves.proofs.Steps.{turn_more, turn_stop, turn_fault, item-next_item}
use Rattle.parse_exprs.proofs.operands.bracketed.next_items.Goals as goal

pub items-preserved : goal.items-preserved
unfolding firsts may_be_empty read_then next_item
items-preserved b c = record {
  so_far = turn_more c.args.depth g.next_item item-next_item _ _ _ _ _ _ c.items.invariant.so_far (sym c.items-test.ensures) c.in_ok-next_item.ensures.reads c.in_ok-add.ensures.ok;
  shorter = omega (arith, c.in_ok-next_item.ensures.shorter, c.items.invariant.shorter);
}

pub returns-clause-reads : goal.returns-clause-reads
unfolding firsts may_be_empty read_then next_item
returns-clause-reads b c = turn_stop c.args.depth g.next_item item-next_item _ _ _ c.items.invariant.so_far (sym c.items-test.ensures)

pub returns-in_err-next_item-clause-reads : goal.returns-in_err-next_item-clause-reads
unfolding firsts may_be_empty read_then next_item
returns-in_err-next_item-clause-reads b c =
    let p = err_from_is_err_and c.from_residual.result c.from_residual.ensures.1 in
    rw (p.1, p.2) (turn_fault c.args.depth g.next_item item-next_item _ _ _ _ _ _ c.items.invariant.so_far (sym c.items-test.ensures) c.in_err-next_item.ensures.reads)
