use Rattle.std.proofs.Common.{rules, arith}
use Rattle.std.proofs.lemmas.Result.{err_from_is_err_and}
use Rattle.rules_grammar.specs.Grammar.{items}
use Rattle.hs_parse.proofs.blocks_lemmas.BlockSteps.{block_fault, item_next, item_last}
use Rattle.hs_parse.proofs.blocks.stmts.block_in_braces.Goals as goal

pub items-preserved : goal.items-preserved
items-preserved b c = record {
  so_far = item_next c.args.depth _ _ _ _ _ _ _ c.items.invariant.so_far c.in_ok-step.ensures.reads c.in-Stmt.is c.in_ok-add-in-Stmt.ensures.ok;
  shorter = omega (arith, c.in_ok-step.ensures.shorter, c.items.invariant.shorter);
}

pub returns-in-Last-clause-reads : goal.returns-in-Last-clause-reads
returns-in-Last-clause-reads b c = search (rules, item_last)

pub returns-in_err-step-clause-reads : goal.returns-in_err-step-clause-reads
returns-in_err-step-clause-reads b c =
    let p = err_from_is_err_and c.from_residual.result c.from_residual.ensures.1 in
    rw (p.1, p.2) (block_fault c.args.depth _ _ _ _ _ _ c.items.invariant.so_far c.in_err-step.ensures.reads)
