use Rattle.std.proofs.Common.{rules}
use Rattle.hs_grammar.specs.Parser.{firsts, may_be_empty, read_then}
use Rattle.rules_grammar.specs.Grammar.{block_item}
use Rattle.parse_leaves.proofs.Steps.{steps}
use Rattle.hs_parse.proofs.blocks.stmts.block_item.Goals as goal

pub returns-then-at_name-clause-reads : goal.returns-then-at_name-clause-reads
unfolding firsts may_be_empty read_then block_item
returns-then-at_name-clause-reads b c = search (rules, steps)

pub returns-in_err-parts-clause-reads : goal.returns-in_err-parts-clause-reads
unfolding firsts may_be_empty read_then block_item
returns-in_err-parts-clause-reads b c = search (rules, steps)

pub returns-then-at_word-clause-reads : goal.returns-then-at_word-clause-reads
unfolding firsts may_be_empty read_then block_item
returns-then-at_word-clause-reads b c = search (rules, steps)

pub returns-in_err-action-clause-reads : goal.returns-in_err-action-clause-reads
unfolding firsts may_be_empty read_then block_item
returns-in_err-action-clause-reads b c = search (rules, steps)

pub returns-clause-reads : goal.returns-clause-reads
unfolding firsts may_be_empty read_then block_item
returns-clause-reads b c = search (rules, steps)
