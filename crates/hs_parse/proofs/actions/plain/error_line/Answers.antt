use Rattle.std.proofs.Common.{rules}
use Rattle.hs_grammar.specs.Parser.{firsts, may_be_empty, read_then}
use Rattle.rules_grammar.specs.Grammar.{error_line}
use Rattle.parse_leaves.proofs.Steps.{steps}
use Rattle.hs_parse.proofs.actions.plain.error_line.Goals as goal

pub returns-in_err-pos-clause-reads : goal.returns-in_err-pos-clause-reads
unfolding firsts may_be_empty read_then error_line
returns-in_err-pos-clause-reads c = search (rules, steps)

pub returns-in_err-word-clause-reads : goal.returns-in_err-word-clause-reads
unfolding firsts may_be_empty read_then error_line
returns-in_err-word-clause-reads c = search (rules, steps)

pub returns-in_err-arg-clause-reads : goal.returns-in_err-arg-clause-reads
unfolding firsts may_be_empty read_then error_line
returns-in_err-arg-clause-reads c = search (rules, steps)

pub returns-clause-reads : goal.returns-clause-reads
unfolding firsts may_be_empty read_then error_line
returns-clause-reads c = search (rules, steps)
