use Rattle.std.proofs.Common.{rules}
use Rattle.hs_grammar.specs.Parser.{firsts, may_be_empty, read_then}
use Rattle.rules_grammar.specs.Grammar.{def_body}
use Rattle.parse_leaves.proofs.Steps.{steps}
use Rattle.hs_parse.proofs.script.def_body.Goals as goal

pub returns-in_err-ty-clause-reads : goal.returns-in_err-ty-clause-reads
unfolding firsts may_be_empty read_then def_body
returns-in_err-ty-clause-reads c = search (rules, steps)

pub returns-in_err-symbol-clause-reads : goal.returns-in_err-symbol-clause-reads
unfolding firsts may_be_empty read_then def_body
returns-in_err-symbol-clause-reads c = search (rules, steps)

pub returns-in_err-block-clause-reads : goal.returns-in_err-block-clause-reads
unfolding firsts may_be_empty read_then def_body
returns-in_err-block-clause-reads c = search (rules, steps)

pub returns-then-at_word-clause-reads : goal.returns-then-at_word-clause-reads
unfolding firsts may_be_empty read_then def_body
returns-then-at_word-clause-reads c = search (rules, steps)

pub returns-in_err-ty-2-clause-reads : goal.returns-in_err-ty-2-clause-reads
unfolding firsts may_be_empty read_then def_body
returns-in_err-ty-2-clause-reads c = search (rules, steps)

pub returns-in_err-symbol-2-clause-reads : goal.returns-in_err-symbol-2-clause-reads
unfolding firsts may_be_empty read_then def_body
returns-in_err-symbol-2-clause-reads c = search (rules, steps)

pub returns-in_err-value-clause-reads : goal.returns-in_err-value-clause-reads
unfolding firsts may_be_empty read_then def_body
returns-in_err-value-clause-reads c = search (rules, steps)

pub returns-clause-reads : goal.returns-clause-reads
unfolding firsts may_be_empty read_then def_body
returns-clause-reads c = search (rules, steps)
