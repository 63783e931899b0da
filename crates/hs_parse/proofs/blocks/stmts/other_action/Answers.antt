use Rattle.std.proofs.Common.{rules}
use Rattle.hs_grammar.specs.Parser.{firsts, may_be_empty, read_then}
use Rattle.rules_grammar.specs.Grammar.{other_action}
use Rattle.parse_leaves.proofs.Steps.{steps}
use Rattle.hs_parse.proofs.blocks.stmts.other_action.Goals as goal

pub returns-then-at_word-clause-reads : goal.returns-then-at_word-clause-reads
unfolding firsts may_be_empty read_then other_action
returns-then-at_word-clause-reads b c = search (rules, steps)

pub returns-then-at_word-2-clause-reads : goal.returns-then-at_word-2-clause-reads
unfolding firsts may_be_empty read_then other_action
returns-then-at_word-2-clause-reads b c = search (rules, steps)

pub returns-clause-reads : goal.returns-clause-reads
unfolding firsts may_be_empty read_then other_action
returns-clause-reads b c = search (rules, steps)
