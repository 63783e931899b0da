use Rattle.rules_grammar.specs.Grammar.{masking_action_word}
use Rattle.parse_leaves.proofs.cursor.Cursor.masking_action_word.Goals as goal

pub returns-clause-reads : goal.returns-clause-reads
unfolding masking_action_word
returns-clause-reads c = c.one_of.ensures.reads
