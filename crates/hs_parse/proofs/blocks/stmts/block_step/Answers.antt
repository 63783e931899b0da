use Rattle.std.proofs.Common.{rules}
use Rattle.std.proofs.lemmas.Result.{err_from_is_err_and}
use Rattle.hs_parse.proofs.blocks_lemmas.BlockSteps.{step_err, at_stmt, at_sep, at_last}
use Rattle.hs_parse.proofs.blocks.stmts.block_step.Goals as goal

pub returns-in_err-step-clause-reads : goal.returns-in_err-step-clause-reads
returns-in_err-step-clause-reads b c = search (rules, step_err)

pub returns-in_err-symbol-in-Stmt-clause-reads : goal.returns-in_err-symbol-in-Stmt-clause-reads
returns-in_err-symbol-in-Stmt-clause-reads b c =
    let p = err_from_is_err_and c.from_residual-in_err-symbol-in-Stmt.result c.from_residual-in_err-symbol-in-Stmt.ensures.1 in
    rw (p.1, p.2) (at_sep c.args.depth _ _ _ _ _ _ _ c.in-Stmt.is c.in_ok-step.ensures.reads c.in_err-symbol-in-Stmt.ensures.reads)

pub returns-in_ok-symbol-in-Stmt-clause-reads : goal.returns-in_ok-symbol-in-Stmt-clause-reads
returns-in_ok-symbol-in-Stmt-clause-reads b c = at_stmt c.args.depth _ _ _ _ _ _ c.in-Stmt.is c.in_ok-step.ensures.reads c.in_ok-symbol-in-Stmt.ensures.reads

pub returns-in-Last-clause-reads : goal.returns-in-Last-clause-reads
returns-in-Last-clause-reads b c = at_last c.args.depth _ _ _ _ _ _ c.in-Last.is c.in_ok-step.ensures.reads c.behind_action.ensures.reads
