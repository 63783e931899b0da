use Rattle.std.proofs.Common.{rules}
use Rattle.rules_grammar.specs.Grammar.{rule_of}
use Rattle.parse_leaves.proofs.case_arms_lemmas.Parts.{closed_arms, closed_semicolon, closed_brace, closed_ok}
use Rattle.hs_parse.proofs.blocks.arms.block_arms_in_braces.Goals as goal

pub returns-in_err-arms-clause-reads : goal.returns-in_err-arms-clause-reads
unfolding rule_of
returns-in_err-arms-clause-reads b c = search (rules, closed_arms)

pub returns-in_err-semicolon-clause-reads : goal.returns-in_err-semicolon-clause-reads
unfolding rule_of
returns-in_err-semicolon-clause-reads b c = search (rules, closed_semicolon)

pub returns-in_err-symbol-clause-reads : goal.returns-in_err-symbol-clause-reads
unfolding rule_of
returns-in_err-symbol-clause-reads b c = search (rules, closed_brace)

pub returns-clause-reads : goal.returns-clause-reads
unfolding rule_of
returns-clause-reads b c = search (rules, closed_ok)
