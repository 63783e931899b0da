use Rattle.std.proofs.Common.{rules}
use Rattle.hs_grammar.specs.Parser.{firsts, may_be_empty, read_then}
use Rattle.rules_grammar.specs.Grammar.{bare_arm, named_arm, empty_arm, maybe_arms, either_arms, list_arms, pair_arm}
use Rattle.parse_leaves.proofs.Steps.{steps}
use Rattle.parse_leaves.proofs.case_arms.kinds.arms.Goals as goal

pub returns-then-at_word-clause-reads : goal.returns-then-at_word-clause-reads
unfolding firsts may_be_empty read_then maybe_arms bare_arm either_arms named_arm list_arms empty_arm pair_arm
returns-then-at_word-clause-reads b c = search (rules, steps)

pub returns-then-at_word-2-clause-reads : goal.returns-then-at_word-2-clause-reads
unfolding firsts may_be_empty read_then maybe_arms bare_arm either_arms named_arm list_arms empty_arm pair_arm
returns-then-at_word-2-clause-reads b c = search (rules, steps)

pub returns-then-at_symbol-clause-reads : goal.returns-then-at_symbol-clause-reads
unfolding firsts may_be_empty read_then maybe_arms bare_arm either_arms named_arm list_arms empty_arm pair_arm
returns-then-at_symbol-clause-reads b c = search (rules, steps)

pub returns-clause-reads : goal.returns-clause-reads
unfolding firsts may_be_empty read_then maybe_arms bare_arm either_arms named_arm list_arms empty_arm pair_arm
returns-clause-reads b c = search (rules, steps)
