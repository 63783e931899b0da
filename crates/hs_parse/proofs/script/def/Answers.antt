use Rattle.std.proofs.Common.{rules}
use Rattle.std.proofs.lemmas.Result.{err_from_is_err_and}
use Rattle.hs_grammar.specs.Parser.{firsts, may_be_empty, read_then}
use Rattle.rules_grammar.specs.Grammar.{def}
use Rattle.parse_leaves.proofs.Steps.{steps}
use Rattle.hs_parse.proofs.DefSteps.{def_end, def_all}
use Rattle.hs_parse.proofs.script.def.Goals as goal

pub returns-in_err-name-clause-reads : goal.returns-in_err-name-clause-reads
unfolding firsts may_be_empty read_then def
returns-in_err-name-clause-reads c = search (rules, steps)

pub returns-in_err-params-clause-reads : goal.returns-in_err-params-clause-reads
unfolding firsts may_be_empty read_then def
returns-in_err-params-clause-reads c = search (rules, steps)

pub returns-in_err-symbol-clause-reads : goal.returns-in_err-symbol-clause-reads
unfolding firsts may_be_empty read_then def
returns-in_err-symbol-clause-reads c = search (rules, steps)

pub returns-in_err-body-clause-reads : goal.returns-in_err-body-clause-reads
unfolding firsts may_be_empty read_then def
returns-in_err-body-clause-reads c = search (rules, steps)

pub returns-in_err-symbol-2-clause-reads : goal.returns-in_err-symbol-2-clause-reads
unfolding read_then
returns-in_err-symbol-2-clause-reads c =
    let p = err_from_is_err_and c.from_residual-in_err-symbol-2.result c.from_residual-in_err-symbol-2.ensures.1 in
    rw (p.1, p.2) (def_end c.args.depth _ _ _ _ _ _ _ _ _ _ _ _ c.in_ok-name.ensures.reads c.in_ok-params.ensures.reads c.in_ok-symbol.ensures.reads c.in_ok-body.ensures.reads c.in_err-symbol-2.ensures.reads)

pub returns-clause-reads : goal.returns-clause-reads
unfolding read_then
returns-clause-reads c = def_all c.args.depth _ _ _ _ _ _ _ _ _ _ _ c.in_ok-name.ensures.reads c.in_ok-params.ensures.reads c.in_ok-symbol.ensures.reads c.in_ok-body.ensures.reads c.in_ok-symbol-2.ensures.reads
